-- What has another first byte than a name is not that name.
use Prim.Native.Nat.{ℕ}
use mathlib.Core.Path.{◌≡◌, refl, sym, ◌∙◌}
use mathlib.Core.Bool.{true, false, Bool, ◌&&◌}
use mathlib.Core.List.{List, [], ◌∷◌}
use lib.Dec.{eqb, ltb}
use lib.ListN.{get_or, get_or-eq_default}
use borrow.Author.Tests.{ne_eqb, eqb-true, ltb-true, ltb-false}
use Rattle.std.specs.Prelude.{slice_get}
use Rattle.laws.specs.Bytes.{same, begins}
use Rattle.laws.proofs.Conditions.{false_true, and_first, and_second}
use Rattle.laws.proofs.Table.{below, sure}
use Rattle.setting_texts.specs.Names.{names, leads, name_of, lead_of}

-- the first byte of a name is that of the name with what parts it from its value
first_of_name : ℕ → Bool
first_of_name k = begins (get_or (lead_of k) 0 0 ∷ []) (lead_of k) && begins (get_or (lead_of k) 0 0 ∷ []) (name_of k)

other_first : (x : ℕ) (t l s : List ℕ) → begins (x ∷ []) l ≡ true → begins (x ∷ []) t ≡ true → (slice_get l 0 ≡ slice_get s 0 → ⊥) → same t s ≡ false
other_first x t [] s e f d = absurd (false_true e)
other_first x [] (w ∷ l) s e f d = absurd (false_true f)
other_first x (y ∷ t) (w ∷ l) [] e f d = refl
other_first x (y ∷ t) (w ∷ l) (z ∷ s) e f d =
    let a = eqb-true x w (and_first (eqb x w) true e) in
    let b = eqb-true x y (and_first (eqb x y) true f) in
    rw (ne_eqb y z (λ p. d (rw (sym a ∙ b ∙ p))))

pub other_name : (k : ℕ) (s : List ℕ) → (slice_get (lead_of k) 0 ≡ slice_get s 0 → ⊥) → same (name_of k) s ≡ false
unfolding first_of_name
other_name k s d = go (ltb k 23) refl s d
  where
    behind : (t l s : List ℕ) → t ≡ [] → l ≡ [] → (slice_get l 0 ≡ slice_get s 0 → ⊥) → same t s ≡ false
    behind t l [] e f d = absurd (d (rw f))
    behind t l (x ∷ s) e f d = rw e

    go : (b : Bool) → ltb k 23 ≡ b → (s : List ℕ) → (slice_get (lead_of k) 0 ≡ slice_get s 0 → ⊥) → same (name_of k) s ≡ false
    go true h s d = let e = sure _ (below 23 first_of_name tt k (ltb-true k 23 h)) in other_first (get_or (lead_of k) 0 0) (name_of k) (lead_of k) s (and_first _ _ e) (and_second _ _ e) d
    go false h s d = behind (name_of k) (lead_of k) s (get_or-eq_default names [] (ltb-false k 23 h)) (get_or-eq_default leads [] (ltb-false k 23 h)) d
