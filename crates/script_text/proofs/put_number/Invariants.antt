-- `put_number` puts a digit a turn: what is put, and the digits that are left, are the number.
use Rattle.decimals.specs.Decimals.{in_digits}
use Rattle.decimals.specs.Plain.{plain}
use Rattle.script_text.proofs.Puts.{Underway}
use Rattle.script_text.proofs.put_number.Given as goal

abbrev pub invariant-loop-left : goal.invariant-loop-left
invariant-loop-left l = Underway (plain l.v) (in_digits l.left l.v) l.initial.out l.at l.out l.to
