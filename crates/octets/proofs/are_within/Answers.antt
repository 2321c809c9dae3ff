use Prim.Native.Nat.{ℕ, ◌<◌}
use mathlib.Core.Path.{◌≡◌, refl, sym}
use mathlib.Core.Bool.{false, and-false}
use mathlib.Core.List.{List, [], ◌∷◌}
use lib.Dec.{leb}
use lib.ListN.{length}
use native.Mathlib.Omega.{arith}
use Rattle.laws.specs.Lists.{within}
use Rattle.octets.proofs.are_within.Goals as goal

-- a number without a bound
unbounded : (l bs : List ℕ) → length bs < length l → within l bs ≡ false
unbounded [] bs h = absurd (omega arith)
unbounded (x ∷ l) [] h = refl
unbounded (x ∷ l) (b ∷ bs) h = rw (unbounded l bs (omega arith)) (and-false (leb x b))

pub returns-then-bounds-numbers : goal.returns-then-bounds-numbers
returns-then-bounds-numbers c = sym (unbounded c.args.numbers.now c.args.bounds.now c.if-bounds-numbers.true)
