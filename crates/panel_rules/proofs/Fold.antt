-- A flag kept by a fold says `every`: it stays raised over the elements seen where each of them is good, and the rest decides.
use mathlib.Core.Path.{◌≡◌, refl}
use mathlib.Core.Bool.{Bool, true, false, ◌&&◌}
use mathlib.Core.List.{List, [], ◌∷◌}
use Rattle.std.specs.List.{fold}
use Rattle.laws.specs.Lists.{every}

module _ {A : Type 0} (f : A → Bool) where
  from_flag : (b : Bool) (l : List A) → fold (λ (ok : Bool) (x : A). ok && f x) b l ≡ (b && every f l)
  from_flag true [] = refl
  from_flag false [] = refl
  from_flag true (x ∷ l) = from_flag (f x) l
  from_flag false (x ∷ l) = from_flag false l

  pub fold_every : (l : List A) → fold (λ (ok : Bool) (x : A). ok && f x) true l ≡ every f l
  fold_every l = from_flag true l
