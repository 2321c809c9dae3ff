-- Tests joined by `&&`, a choice, and a ladder of refusals: each rung holds because `cond` computes on its Boolean.
use mathlib.Core.Path.{◌≡◌, refl, sym, subst}
use mathlib.Core.Bool.{Bool, true, false, cond, ◌&&◌}
use lib.Dec.{T}

pub false_true : ◌≡◌ {A = Bool} false true → ⊥
false_true e = subst T (sym e) tt

-- both sides of an `&&` that says yes
pub and_first : (a b : Bool) → (a && b) ≡ true → a ≡ true
and_first true b e = refl
and_first false b e = e

pub and_second : (a b : Bool) → (a && b) ≡ true → b ≡ true
and_second true b e = e
and_second false b e = absurd (false_true e)

pub and_both : (a b : Bool) → a ≡ true → b ≡ true → (a && b) ≡ true
and_both true b p q = q
and_both false b p q = p

-- what holds of both sides of a choice holds of what is chosen
pub choose : {A : Type 0} (P : A → Type 0) (b : Bool) (x y : A) → (b ≡ true → P x) → (b ≡ false → P y) → P (cond b x y)
choose P true x y f g = f refl
choose P false x y f g = g refl

-- a ladder that ends in z, where its first refusal x is not z: that refusal did not apply, and the rest ends in z
pub passed : {A : Type 0} (b : Bool) (x y z : A) → (x ≡ z → ⊥) → cond b x y ≡ z → (b ≡ false) × (y ≡ z)
passed true x y z n e = absurd (n e)
passed false x y z n e = (refl, e)
