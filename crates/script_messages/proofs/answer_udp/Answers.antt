-- `answer_udp` hands on the bytes that the line writes, and writes the answer alone.
use mathlib.Core.Path.{subst, ap, ◌∙◌}
use mathlib.Core.List.{List, []}
use Prim.Native.Nat.{ℕ}
use Rattle.steps.specs.Messages.{udp}
use Rattle.steps.specs.Step.{step}
use Rattle.script_answers.specs.Answers.{Answers, Effect}
use Rattle.script_messages.specs.Messages.{spread}
use Rattle.script_messages.proofs.Carried.{spread_text}
use Rattle.script_write.proofs.Lent.{front}
use Rattle.script_messages.proofs.answer_udp.Goals as goal

pub returns : goal.returns
returns c =
    let a = c.args in
    let r = c.say_answer in
    let t = c.take-t in
    let e = spread_text a.b 0 _ [] t.result t.ensures.0 ∙ ap (λ (m : List ℕ). spread (step a.b (udp m))) (front c.bytes_at-n.ensures) in
    subst (λ (o : Effect). Answers o r.result a.out.now r.new.out) e r.ensures
