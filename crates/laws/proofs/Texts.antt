-- A text that begins another: what is asked from place j on is asked of the two bytes at j, then from j + 1 on.
use mathlib.Core.Path.{◌≡◌, refl, sym, ap, ◌∙◌}
use mathlib.Core.Bool.{Bool, true, false, ◌&&◌}
use mathlib.Core.List.{List, [], ◌∷◌, ◌++◌}
use Prim.Native.Nat.{ℕ, ◌+◌, ◌<◌, ◌≤◌}
use native.Mathlib.Omega.{arith}
use lib.Dec.{eqb}
use lib.ListN.{length, get_or, take, drop}
use borrow.Author.Tests.{eqb-true}
use Rattle.laws.specs.Bytes.{begins, same}
use Rattle.laws.proofs.Conditions.{and_first, and_second, false_true}
use Rattle.laws.proofs.Lists.{from, behind}

pub begins_from : (p s : List ℕ) (j : ℕ) → j < length p → j < length s → begins (drop j p) (drop j s) ≡ (eqb (get_or p j 0) (get_or s j 0) && begins (drop (j + 1) p) (drop (j + 1) s))
begins_from p s j h k = rw (from p j 0 h, from s j 0 k)

-- a text that has ended begins with nothing more
pub begins_ended : (p s : List ℕ) (j : ℕ) → j < length p → length s ≤ j → begins (drop j p) (drop j s) ≡ false
begins_ended p s j h k = rw (from p j 0 h, behind s j k)

-- all of p was found
pub begins_whole : (p s : List ℕ) (j : ℕ) → length p ≤ j → begins (drop j p) (drop j s) ≡ true
begins_whole p s j h = rw (behind p j h)

-- what begins s is no longer than s, and is its front
pub begins_fits : (p s : List ℕ) → begins p s ≡ true → length p ≤ length s
begins_fits [] s e = omega arith
begins_fits (x ∷ p) [] e = absurd (false_true e)
begins_fits (x ∷ p) (y ∷ s) e = let h = begins_fits p s (and_second (eqb x y) (begins p s) e) in omega (arith, h)

pub begins_front : (p s : List ℕ) → begins p s ≡ true → s ≡ p ++ drop (length p) s
begins_front [] s e = refl
begins_front (x ∷ p) [] e = absurd (false_true e)
begins_front (x ∷ p) (y ∷ s) e =
    ap (λ (z : ℕ). z ∷ s) (sym (eqb-true x y (and_first (eqb x y) (begins p s) e)))
    ∙ ap (λ (l : List ℕ). x ∷ l) (begins_front p s (and_second (eqb x y) (begins p s) e))

-- a text that is too short begins with nothing so long
pub begins_short : (p s : List ℕ) → length s < length p → begins p s ≡ false
begins_short [] s h = absurd (omega arith)
begins_short (x ∷ p) [] h = refl
begins_short (x ∷ p) (y ∷ s) h = rw (begins_short p s (omega arith)) (never (eqb x y))
  where
    never : (b : Bool) → (b && false) ≡ false
    never true = refl
    never false = refl

-- and otherwise its front is compared
pub begins_take : (p s : List ℕ) → length p ≤ length s → same p (take (length p) s) ≡ begins p s
begins_take [] s h = refl
begins_take (x ∷ p) [] h = absurd (omega arith)
begins_take (x ∷ p) (y ∷ s) h = ap (λ (b : Bool). eqb x y && b) (begins_take p s (omega arith))

-- a text is the same as one that it begins and that is as long
pub begins_same : (p s : List ℕ) → length s ≡ length p → begins p s ≡ same p s
begins_same [] [] e = refl
begins_same [] (y ∷ s) e = absurd (omega arith)
begins_same (x ∷ p) [] e = absurd (omega arith)
begins_same (x ∷ p) (y ∷ s) e = ap (λ (b : Bool). eqb x y && b) (begins_same p s (omega arith))
