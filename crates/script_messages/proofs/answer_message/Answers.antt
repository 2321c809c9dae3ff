-- `answer_message` lends an area of A5h to the message that the line writes.
use Prim.Native.Nat.{ℕ, ◌≤◌}
use mathlib.Core.Path.{◌≡◌, subst, ap, ◌∙◌}
use mathlib.Core.List.{List}
use native.Mathlib.Omega.{arith}
use lib.ListN.{replicate}
use Rattle.script_words.specs.Words.{number_at}
use Rattle.script_words.proofs.Laws.{number_most}
use Rattle.script_answers.specs.Answers.{Answers, Effect}
use Rattle.script_messages.specs.Messages.{messaged}
use Rattle.script_messages.proofs.Carried.{carried_same}
use Rattle.script_write.proofs.Lent.{front, throughout, throughout_length}
use Rattle.script_messages.proofs.answer_message.Goals as goal

-- the area has at most 1,024 bytes
room : (line : List ℕ) {n : ℕ} → n ≡ number_at 1024 2 line → n ≤ 1024
room line e = let m = number_most 1024 2 line in omega (arith, e, m)

pub slice_bounds-area-end : goal.slice_bounds-area-end
slice_bounds-area-end c = room c.args.line.now c.number_at-room.ensures

pub slice_bounds-carry-end-2 : goal.slice_bounds-carry-end-2
slice_bounds-carry-end-2 c = throughout_length c.number_at-room.result 1024 165 (room c.args.line.now c.number_at-room.ensures)

pub returns : goal.returns
unfolding messaged
returns c =
    let a = c.args in
    let r = c.carry in
    let n = c.number_at-room in
    let h = room a.line.now n.ensures in
    let lent = throughout n.result 1024 165 h ∙ ap (λ (k : ℕ). replicate k 165) n.ensures in
    let e = carried_same a.b a.by c.number_at-link.ensures (front c.bytes_at-n.ensures) lent in
    subst (λ (o : Effect). Answers o r.result a.out.now r.new.out) e r.ensures.answers
