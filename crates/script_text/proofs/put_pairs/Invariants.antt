-- `put_pairs` puts two digits a turn: what is put, and the pairs of the bytes from the index on, are the pairs of all.
use lib.ListN.{drop}
use Rattle.script_text.specs.Texts.{pairs}
use Rattle.script_text.proofs.Puts.{Underway}
use Rattle.script_text.proofs.put_pairs.Given as goal

abbrev pub invariant-loop-b : goal.invariant-loop-b
invariant-loop-b l = Underway (pairs l.bytes) (pairs (drop l.b-index l.bytes)) l.initial.out l.at l.out l.to
