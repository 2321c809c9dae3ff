-- `unspaced` takes off one space after the other: what is left has the same bytes left as the whole.
use mathlib.Core.Path.{◌≡◌}
use lib.ListN.{length}
use Rattle.trimming.specs.Trimming.{unspaced}
use Rattle.trimming.proofs.unspaced.Given as goal

abbrev pub invariant-loop-left : goal.invariant-loop-left
invariant-loop-left l = unspaced l.left ≡ unspaced l.fn.d

abbrev pub decreases-loop-left : goal.decreases-loop-left
decreases-loop-left l = length l.left
