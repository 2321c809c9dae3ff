-- `answer_box` configures a box by the bytes that the line writes, and puts the answer's number.
use mathlib.Core.Path.{subst, ap, ◌∙◌}
use Rattle.configure.specs.Configure.{configured}
use Rattle.script_text.proofs.Puts.{puts_then}
use Rattle.script_answers.specs.Answers.{Answers, Effect, writes}
use Rattle.script_panels.specs.Panels.{boxed}
use Rattle.script_write.proofs.Lent.{front}
use Rattle.script_panels.proofs.answer_box.Goals as goal

pub returns : goal.returns
unfolding boxed writes
returns c =
    let r = c.ended in
    let a = c.args in
    let text = rw c.number.ensures at c.put_number_text-at.ensures in
    let e = ap boxed (c.configure-c.ensures ∙ ap configured (front c.configuration_in-n.ensures)) in
    subst (λ (o : Effect). Answers o r.result a.out.now r.new.out) e (record { box_is = r.ensures.box_is; text_is = puts_then text r.ensures.text_is })
