-- A table's rule, from one test that is computed over the whole table: below n is at n - 1 or below that.
use mathlib.Core.Path.{◌≡◌, refl, sym, subst}
use mathlib.Core.Bool.{Bool, true, false, ◌&&◌}
use Prim.Native.Nat.{ℕ, zero, suc, ◌<◌}
use native.Mathlib.Omega.{arith}
use lib.Dec.{T, eqb}
use borrow.Author.Tests.{eqb-true, eqb-false}
use Rattle.laws.specs.Lists.{every_below}

-- both sides of an `&&` that was computed
pub and_left : (a b : Bool) → T (a && b) → T a
and_left true b t = tt
and_left false b t = t

pub and_right : (a b : Bool) → T (a && b) → T b
and_right true b t = t
and_right false b t = absurd t

-- what was computed is so
pub sure : (b : Bool) → T b → b ≡ true
sure true t = refl
sure false t = absurd t

-- what is computed of every number below n holds at each
pub below : (n : ℕ) (f : ℕ → Bool) → T (every_below n f) → (k : ℕ) → k < n → T (f k)
below zero f t k h = let z : ⊥ = omega arith in absurd z
below (suc n) f t k h = go (eqb k n) refl (below n f (and_right (f n) (every_below n f) t) k)
  where
    go : (b : Bool) → eqb k n ≡ b → (k < n → T (f k)) → T (f k)
    go true e r = subst (λ (m : ℕ). T (f m)) (sym (eqb-true k n e)) (and_left (f n) (every_below n f) t)
    go false e r = let ne : k ≡ n → ⊥ = eqb-false k n e in r (omega arith)
