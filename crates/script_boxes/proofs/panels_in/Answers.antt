-- `panels_in` divides the words behind the first by three.
use Prim.Native.Nat.{◌/◌, ℕ}
use mathlib.Core.Path.{ap}
use native.Mathlib.Omega.{arith}
use Rattle.script_boxes.specs.Boxes.{panels_in}
use Rattle.script_boxes.proofs.panels_in.Goals as goal

pub returns : goal.returns
unfolding panels_in
returns c = let e = c.spaces_in.ensures in ap (λ (n : ℕ). n / 3) (omega arith)
