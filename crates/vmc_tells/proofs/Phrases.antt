-- Words laid one behind the other at the front of zeros are one text, and a text's front is read back by its length.
use Prim.Native.Nat.{ℕ, zero, suc, ◌+◌, ◌-◌, ◌≤◌}
use mathlib.Core.Path.{◌≡◌, refl, sym, ap, ◌∙◌}
use mathlib.Core.Bool.{Bool, true, false, cond}
use mathlib.Core.List.{List, [], ◌∷◌, ◌++◌}
use native.Mathlib.Omega.{arith}
use native.Mathlib.Nat.{zero-add}
use native.Mathlib.Numerals.{add-one}
use lib.Dec.{ltb}
use lib.ListN.{length, get_or, take, drop, replicate, length-append}
use lib.Seq.{take_at}
use Rattle.laws.specs.Bytes.{laid}
use Rattle.laws.proofs.Areas.{laid_fits, laid_first, laid_more, over_front}
use Rattle.decimals.specs.Decimals.{in_digits, numeral, spelled}
use Rattle.decimals.specs.Texts.{text}
use Rattle.decimals.specs.declared.Text.{Text}
use Rattle.decimals.proofs.Texts.{numeral_slice}
use Rattle.vmc_tells.specs.Phrases.{textual}

zeros : ℕ → List ℕ
zeros n = replicate n 0

drop_zeros : (n m : ℕ) → n ≤ m → drop n (zeros m) ≡ zeros (m - n)
unfolding zeros
drop_zeros zero m h = ap zeros (let e : m ≡ m - 0 = omega arith in e)
drop_zeros (suc n) zero h = absurd (omega arith)
drop_zeros (suc n) (suc m) h = drop_zeros n m (omega arith) ∙ ap zeros (let e : m - n ≡ suc m - suc n = omega arith in e)

-- two parts laid over twenty zeros, one behind the other
pub two_parts : (e f vs ws : List ℕ) (n m : ℕ) → e ≡ laid (replicate 20 0) 0 vs → f ≡ laid e n ws → n ≡ length vs → m ≡ length ws → length vs + length ws ≤ 20 → record { bytes = f; len = n + m } ≡ textual (vs ++ ws)
unfolding text zeros
two_parts e f vs ws n m p q a b h =
    let first = laid_first {d = replicate 20 0} {n = 0} e vs n n p (sym a) (zero-add n) (omega (arith, a)) in
    let both = laid_more f ws m (n + m) first q (sym b) refl (omega (arith, a, b)) in
    let l : length (vs ++ ws) ≡ n + m = length-append vs ws ∙ omega (arith, a, b) in
    let s : f ≡ (vs ++ ws) ++ replicate (20 - length (vs ++ ws)) 0 = both.is ∙ over_front (replicate 20 0) (vs ++ ws) ∙ ap (λ (r : List ℕ). (vs ++ ws) ++ r) (drop_zeros (length (vs ++ ws)) 20 (omega (arith, l, a, b))) in
    ap (λ (x : List ℕ). record { bytes = x; len = n + m }) s ∙ ap (λ (x : ℕ). record { bytes = (vs ++ ws) ++ replicate (20 - length (vs ++ ws)) 0; len = x }) (sym l)

-- what was laid at the front of an area is read back
pub front : (d vs : List ℕ) → length vs ≤ length d → take (length vs) (laid d 0 vs) ≡ vs
front d vs h =
    ap (take (length vs)) (laid_fits d 0 vs (omega arith) ∙ over_front d vs) ∙ take_at vs (drop (length vs) d) (length vs) refl

-- the digits of a number
pub numeral_short : (v : ℕ) → length (numeral v) ≤ 3
unfolding numeral in_digits
numeral_short v = go (ltb v 10) (ltb v 100)
  where
    go : (a b : Bool) → length (cond a (in_digits 1 v) (cond b (in_digits 2 v) (in_digits 3 v))) ≤ 3
    go true b = omega arith
    go false true = omega arith
    go false false = omega arith

pub digits_length : (v : ℕ) (n : Text 3) → n ≡ spelled v → n.len ≡ length (numeral v)
unfolding spelled text
digits_length v n e = ap (λ (x : Text 3). x.len) e

pub three : (b : List ℕ) → length b ≡ 3 → get_or b 0 0 ∷ get_or b 1 0 ∷ get_or b 2 0 ∷ [] ≡ b
three [] e = absurd (omega arith)
three (x ∷ []) e = absurd (omega arith)
three (x ∷ y ∷ []) e = absurd (omega arith)
three (x ∷ y ∷ z ∷ []) e = refl
three (x ∷ y ∷ z ∷ w ∷ l) e = absurd (omega arith)

-- a sign before the digits
pub signed_front : (s v : ℕ) (n : Text 3) → n ≡ spelled v → length n.bytes ≡ 3 → take (n.len + 1) (s ∷ get_or n.bytes 0 0 ∷ get_or n.bytes 1 0 ∷ get_or n.bytes 2 0 ∷ []) ≡ s ∷ numeral v
signed_front s v n e l =
    ap (λ (b : List ℕ). take (n.len + 1) (s ∷ b)) (three n.bytes l) ∙ ap (λ (k : ℕ). take k (s ∷ n.bytes)) (add-one n.len) ∙ ap (λ (b : List ℕ). s ∷ b) (numeral_slice n v e)

-- a text's length
pub text_length_lem : (l : List ℕ) (t : Text 20) → t ≡ textual l → t.len ≡ length l
unfolding text
text_length_lem l t e = ap (λ (x : Text 20). x.len) e

pub text_fits : (l : List ℕ) (t : Text 20) → t ≡ textual l → length t.bytes ≡ 20 → length l ≤ 20
unfolding text zeros
text_fits l t e h =
    let q : length l + length (zeros (20 - length l)) ≡ 20 = sym (length-append l (zeros (20 - length l))) ∙ ap (λ (x : Text 20). length x.bytes) (sym e) ∙ h in
    omega (arith, q)
