-- Texts from their front on: a number is its first digit and the others, bytes are the first one's pair and the others'.
use mathlib.Core.Bool.{false, true}
use mathlib.Core.Path.{◌≡◌, refl, sym, ap, ◌∙◌}
use mathlib.Core.List.{List, [], ◌∷◌}
use Prim.Native.Nat.{ℕ, zero, suc, ◌+◌, ◌-◌, ◌/◌, ◌%◌, ◌^◌, ◌<◌, ◌≤◌}
use native.Mathlib.Omega.{arith}
use borrow.Author.Tests.{ltb-true, ne_eqb}
use lib.IntN.{ℤ, nat_abs, negsuc, pos}
use lib.Signed.{lt_z}
use lib.ListN.{length, get_or, drop}
use Rattle.laws.proofs.Lists.{from, behind}
use Rattle.decimals.specs.Decimals.{in_digits}
use Rattle.laws.specs.Bytes.{ascii}
use Rattle.decimals.specs.Plain.{plain}
use Rattle.script_text.specs.Texts.{at_text, glyph, pairs, hex_text, number_text, signed_text}

pub digit_first : (n v : ℕ) → 0 < n → in_digits n v ≡ (0x30 + v / 10 ^ (n - 1) % 10) ∷ in_digits (n - 1) v
unfolding in_digits
digit_first zero v h = absurd (omega arith)
digit_first (suc n) v h = let e : suc n - 1 ≡ n = omega arith in rw e

pub digits_none : (n v : ℕ) → n ≤ 0 → in_digits n v ≡ []
unfolding in_digits
digits_none zero v h = refl
digits_none (suc n) v h = absurd (omega arith)

pub pairs_from : (s : List ℕ) (i : ℕ) → i < length s → pairs (drop i s) ≡ glyph (get_or s i 0 / 16) ∷ glyph (get_or s i 0 % 16) ∷ pairs (drop (i + 1) s)
unfolding pairs
pairs_from s i h = ap pairs (from s i 0 h)

pub pairs_behind : (s : List ℕ) (i : ℕ) → length s ≤ i → pairs (drop i s) ≡ []
unfolding pairs
pairs_behind s i h = ap pairs (behind s i h)

-- bytes that are there are pairs
pub hex_some : (s : List ℕ) → (length s ≡ 0 → ⊥) → hex_text s ≡ pairs s
unfolding hex_text
hex_some [] n = absurd (n refl)
hex_some (b ∷ s) n = refl

pub hex_none : (s : List ℕ) → length s ≡ 0 → hex_text s ≡ 0x2d ∷ []
unfolding hex_text
hex_none [] e = refl
hex_none (b ∷ s) e = absurd (omega arith)

-- the place is said where it is not 0
pub at_none : (place : ℕ) → place ≡ 0 → at_text place ≡ []
unfolding at_text
at_none place e = rw e

pub at_some : (place : ℕ) → (place ≡ 0 → ⊥) → at_text place ≡ number_text (ascii " at ") place
unfolding at_text
at_some place n = rw (ne_eqb place 0 n)

-- a number below 0, and one that is not, as code holds it
pub signed_low : (z y : ℤ) (n : ℕ) → y ≡ z → n ≡ nat_abs y → lt_z y (pos 0) ≡ true → signed_text z ≡ number_text (ascii "-") n
unfolding signed_text
signed_low z y n e a t = go z (a ∙ ap nat_abs e) (ap (λ (w : ℤ). lt_z w (pos 0)) (sym e) ∙ t)
  where
    go : (z : ℤ) → n ≡ nat_abs z → lt_z z (pos 0) ≡ true → signed_text z ≡ number_text (ascii "-") n
    go (pos k) a t = let h : k < 0 = ltb-true k 0 t in absurd (omega arith)
    go (negsuc k) a t = ap (number_text (ascii "-")) (omega arith)

pub signed_high : (z y : ℤ) (n : ℕ) → y ≡ z → n ≡ nat_abs y → lt_z y (pos 0) ≡ false → signed_text z ≡ plain n
unfolding signed_text
signed_high z y n e a t = go z (a ∙ ap nat_abs e) (ap (λ (w : ℤ). lt_z w (pos 0)) (sym e) ∙ t)
  where
    go : (z : ℤ) → n ≡ nat_abs z → lt_z z (pos 0) ≡ false → signed_text z ≡ plain n
    go (pos k) a t = ap plain (sym a)
    go (negsuc k) a t = cc
