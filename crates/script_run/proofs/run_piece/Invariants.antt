-- `run_piece` takes line after line while there is room: between two of them box, text and store are those of the bytes taken so far.
use Prim.Native.Nat.{◌-◌}
use lib.ListN.{length}
use Rattle.script_run.proofs.Going.{Going}
use Rattle.script_run.proofs.run_piece.Given as goal

abbrev pub invariant-loop-p : goal.invariant-loop-p
invariant-loop-p l = Going l.initial.p.held l.initial.store l.kept l.piece l.initial.area l.p l.store l.area

abbrev pub decreases-loop-p : goal.decreases-loop-p
decreases-loop-p l = length l.piece - l.p.next
