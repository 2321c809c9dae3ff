-- `put_panels` lays three bytes a turn over the front: those of panel i.
use Prim.Native.Nat.{◌*◌}
use mathlib.Core.Path.{◌≡◌}
use lib.Seq.{paste}
use Rattle.script_boxes.specs.Boxes.{configuration}
use Rattle.script_boxes.proofs.put_panels.Given as goal

abbrev pub invariant-loop-i : goal.invariant-loop-i
invariant-loop-i l = l.area ≡ paste l.initial.area 0 (configuration l.n 1 l.line) (l.i * 3)
