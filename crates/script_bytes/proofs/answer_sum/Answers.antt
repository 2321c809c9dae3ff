-- `answer_sum` hands on the front of its array, which is the bytes of the line, and says what the sum of these says.
use mathlib.Core.Path.{sym, ap, ◌∙◌}
use Rattle.sums.specs.Sums.{sums_to_zero}
use Rattle.script_bytes.specs.Bytes.{summed}
use Rattle.script_write.proofs.Lent.{front}
use Rattle.script_bytes.proofs.answer_sum.Goals as goal

pub returns-then-sums_to_zero : goal.returns-then-sums_to_zero
unfolding summed
returns-then-sums_to_zero c =
    let e = ap sums_to_zero (sym (front c.bytes_at-n.ensures)) ∙ sym c.sums_to_zero.ensures ∙ c.if-sums_to_zero.true in
    rw e c.say.ensures

pub returns-else-sums_to_zero : goal.returns-else-sums_to_zero
unfolding summed
returns-else-sums_to_zero c =
    let e = ap sums_to_zero (sym (front c.bytes_at-n.ensures)) ∙ sym c.sums_to_zero.ensures ∙ c.if-sums_to_zero.false in
    rw e c.say-else-sums_to_zero.ensures
