-- What is left, by the last byte, as the code asks it.
use Prim.Native.Nat.{ℕ, suc, ◌-◌, ◌<◌, ◌≤◌}
use mathlib.Core.Path.{◌≡◌, refl, sym, ap, ◌∙◌}
use mathlib.Core.List.{List, [], ◌∷◌}
use lib.ListN.{length, get_or, take}
use lib.Seq.{take_all}
use borrow.Author.Tests.{eq-eqb, ne_eqb}
use native.Mathlib.Omega.{arith}
use Rattle.trimming.specs.Trimming.{unterminated, unspaced}
use Rattle.trimming.proofs.Ends.{unterminated_at, unspaced_at}

-- of no bytes none go
pub none_ends : (d : List ℕ) → length d < 1 → unterminated d ≡ d
unfolding unterminated
none_ends [] h = refl
none_ends (x ∷ d) h = absurd (omega arith)

pub none_spaced : (d : List ℕ) → length d < 1 → unspaced d ≡ d
unfolding unspaced
none_spaced [] h = refl
none_spaced (x ∷ d) h = absurd (omega arith)

pub all_stays : (d : List ℕ) → 1 ≤ length d → (get_or d (length d - 1) 0 ≡ 0x00 → ⊥) → unterminated d ≡ d
all_stays d h n = let q : length d ≡ suc (length d - 1) = omega arith in unterminated_at d (length d - 1) q ∙ rw (ne_eqb _ _ n)

pub one_goes : (d : List ℕ) → 1 ≤ length d → get_or d (length d - 1) 0 ≡ 0x00 → unterminated d ≡ take (length d - 1) d
one_goes d h z = let q : length d ≡ suc (length d - 1) = omega arith in unterminated_at d (length d - 1) q ∙ rw (eq-eqb _ _ z)

-- the whole, as the front that it is of itself
whole : (d : List ℕ) → take (length d) d ≡ d
whole d = take_all (length d) d (omega arith)

pub all_left : (d : List ℕ) → 1 ≤ length d → (get_or d (length d - 1) 0 ≡ 0x20 → ⊥) → unspaced d ≡ d
all_left d h x =
    let q : length d ≡ suc (length d - 1) = omega arith in
    ap unspaced (sym (whole d)) ∙ unspaced_at d (length d) (length d - 1) q (omega arith) ∙ (rw (ne_eqb _ _ x) (whole d))

pub space_goes : (d : List ℕ) → 1 ≤ length d → get_or d (length d - 1) 0 ≡ 0x20 → unspaced d ≡ unspaced (take (length d - 1) d)
space_goes d h x =
    let q : length d ≡ suc (length d - 1) = omega arith in
    ap unspaced (sym (whole d)) ∙ unspaced_at d (length d) (length d - 1) q (omega arith) ∙ rw (eq-eqb _ _ x)
