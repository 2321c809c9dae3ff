-- `carry` lends the area to the way in, and writes what the step left there.
use mathlib.Core.Path.{subst}
use Rattle.script_answers.specs.Answers.{Answers, Effect}
use Rattle.script_messages.proofs.Carried.{carried_text, linked_steps}
use Rattle.script_messages.proofs.carry.Goals as goal

pub returns : goal.returns
returns c =
    let a = c.args in
    let r = c.say_reply in
    let t = c.take-t in
    let s = linked_steps a.b a.line a.link a.m.now a.area.now t.result _ t.ensures in
    record {
      answers = subst (λ (o : Effect). Answers o r.result a.out.now r.new.out) (carried_text s) r.ensures;
      lent = s.area_is;
    }
