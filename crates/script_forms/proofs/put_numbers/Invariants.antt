-- `put_numbers` puts what a byte of the form stands for each turn: what is put, and the form from the index on with the numbers that
-- are left, are the whole.
use lib.ListN.{drop}
use Rattle.script_forms.specs.Forms.{numbers_text}
use Rattle.script_text.proofs.Puts.{Underway}
use Rattle.script_forms.proofs.put_numbers.Given as goal

abbrev pub invariant-loop-x : goal.invariant-loop-x
invariant-loop-x l = Underway (numbers_text l.form l.numbers) (numbers_text (drop l.x-index l.form) l.left.rest.now) l.initial.out l.at l.out l.to
