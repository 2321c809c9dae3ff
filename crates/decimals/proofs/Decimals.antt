-- Decimals, read and written: dividing by 10 ^ n takes the first of n + 1 digits off.
use mathlib.Core.Path.{◌≡◌, refl, sym, ap, ◌∙◌}
use mathlib.Core.Bool.{Bool, true, false, cond, ◌&&◌}
use mathlib.Core.List.{List, [], ◌∷◌, ◌++◌}
use Prim.Native.Nat.{ℕ, zero, suc, ◌+◌, ◌-◌, ◌*◌, ◌/◌, ◌%◌, ◌^◌, ◌<◌, ◌≤◌}
use native.Mathlib.Omega.{arith}
use native.Mathlib.Nat.{pow-succ', pow-zero, mul_assoc, add-mul, add_assoc, mod-eq_of_lt, div-eq_of_lt, pow-le-pow_right, mul-one, add-zero}
use native.Mathlib.Numerals.{add-one}
use lib.Arith.{digits_lt, digits_div}
use lib.ListN.{length, get_or, drop, replicate}
use lib.Dec.{leb}
use borrow.Author.Tests.{leb-true, le-leb}
use Rattle.laws.specs.Lists.{every}
use Rattle.laws.proofs.Conditions.{and_first, and_second}
use Rattle.laws.proofs.Numbers.{positive, above, first_under}
use Rattle.laws.proofs.Lists.{from, behind, every_from}
use Rattle.decimals.specs.Decimals.{is_digit, decimal, in_digits, read_digits}
use Rattle.std.specs.Prelude.{Option, Some, None}
use Rattle.std.specs.List.{list_all}

-- a digit is `0` to `9`
pub digit_low : (b : ℕ) → is_digit b ≡ true → 0x30 ≤ b
unfolding is_digit
digit_low b e = leb-true 0x30 b (and_first (leb 0x30 b) (leb b 0x39) e)

pub digit_high : (b : ℕ) → is_digit b ≡ true → b ≤ 0x39
unfolding is_digit
digit_high b e = leb-true b 0x39 (and_second (leb 0x30 b) (leb b 0x39) e)

-- every byte is a digit: in the library's word
pub every_digit : (l : List ℕ) → list_all is_digit l ≡ every is_digit l
every_digit [] = refl
every_digit (b ∷ l) = rw (every_digit l)

digit_small : (b : ℕ) → is_digit b ≡ true → b - 0x30 < 10
digit_small b e = let h = digit_high b e in omega arith

-- digits write a number that they can hold
pub decimal_fits : (l : List ℕ) → every is_digit l ≡ true → decimal l < 10 ^ length l
unfolding decimal
decimal_fits [] e = rw pow-zero (omega arith)
decimal_fits (b ∷ l) e = rw pow-succ' (digits_lt (digit_small b (and_first (is_digit b) (every is_digit l) e)) (decimal_fits l (and_second (is_digit b) (every is_digit l) e)))

-- what stands above the n digits does not show in them
low_digits : (n a v : ℕ) → in_digits n (a * 10 ^ n + v) ≡ in_digits n v
unfolding in_digits
low_digits zero a v = refl
low_digits (suc n) a v =
    ap (λ (x : ℕ). (0x30 + x) ∷ in_digits n (a * 10 ^ suc n + v)) (first_under 10 n a v (omega arith))
    ∙ ap (λ (x : ℕ). (0x30 + v / 10 ^ n % 10) ∷ in_digits n (x + v)) (above 10 n a)
    ∙ ap (λ (l : List ℕ). (0x30 + v / 10 ^ n % 10) ∷ l) (low_digits n (a * 10) v)

-- read, then written: the digits
pub in_digits_decimal : (l : List ℕ) → every is_digit l ≡ true → in_digits (length l) (decimal l) ≡ l
unfolding decimal in_digits
in_digits_decimal [] e = refl
in_digits_decimal (b ∷ l) e =
    let d = and_first (is_digit b) (every is_digit l) e in
    let es = and_second (is_digit b) (every is_digit l) e in
    let low = digit_low b d in
    let rest = decimal_fits l es in
    let first : 0x30 + ((b - 0x30) * 10 ^ length l + decimal l) / 10 ^ length l % 10 ≡ b =
    ap (λ (y : ℕ). 0x30 + y % 10) (digits_div (b - 0x30) rest) ∙ ap (λ (y : ℕ). 0x30 + y) (mod-eq_of_lt (digit_small b d)) ∙ omega arith in
    ap (λ (y : ℕ). y ∷ in_digits (length l) ((b - 0x30) * 10 ^ length l + decimal l)) first
    ∙ ap (λ (t : List ℕ). b ∷ t) (low_digits (length l) (b - 0x30) (decimal l) ∙ in_digits_decimal l es)

-- the digits by their places, the first at 0
pub digits_at : (n k v : ℕ) → k < n → get_or (in_digits n v) k 0 ≡ 0x30 + v / 10 ^ (n - 1 - k) % 10
unfolding in_digits
digits_at zero k v h = absurd (omega arith)
digits_at (suc n) zero v h = ap (λ (j : ℕ). 0x30 + v / 10 ^ j % 10) (omega arith)
digits_at (suc n) (suc k) v h = digits_at n k v (omega arith) ∙ ap (λ (j : ℕ). 0x30 + v / 10 ^ j % 10) (omega arith)

-- a number under 1000 has zeros before its last three digits
pub three_digits : (n v : ℕ) → v < 1000 → in_digits (suc (suc (suc n))) v ≡ replicate n 0x30 ++ in_digits 3 v
unfolding in_digits
three_digits zero v h = refl
three_digits (suc n) v h =
    let p = positive 10 n (omega arith) in
    let big : v < 10 ^ suc (suc (suc n)) = rw (pow-succ', pow-succ', pow-succ') (omega arith) in
    rw (div-eq_of_lt big) (ap (λ (t : List ℕ). 0x30 ∷ t) (three_digits n v h))

-- one digit more: a number v, read so far, is moved up by ten
shift_in : (v d n r : ℕ) → v * 10 ^ suc n + (d * 10 ^ n + r) ≡ (v * 10 + d) * 10 ^ n + r
shift_in v d n r =
    rw (pow-succ', add-mul (v * 10) d (10 ^ n), mul_assoc v 10 (10 ^ n)) (sym (add_assoc (v * (10 * 10 ^ n)) (d * 10 ^ n) r))

-- the digits from i on, when v is what the first i write
pub record Reading (l : List ℕ) (i v : ℕ) : Type 0 where
  pub here : i ≤ length l
  pub fits : v < 10 ^ i
  pub digits : every is_digit (drop i l) ≡ true
  pub is : decimal l ≡ v * 10 ^ length (drop i l) + decimal (drop i l)

-- the digit that comes next
pub digit_next : (l : List ℕ) (i v : ℕ) → Reading l i v → i < length l → is_digit (get_or l i 0) ≡ true
digit_next l i v r h = and_first (is_digit (get_or l i 0)) (every is_digit (drop (i + 1) l)) (sym (every_from is_digit l i 0 h) ∙ r.digits)

pub reading_next : (l : List ℕ) (i v : ℕ) → Reading l i v → i < length l → Reading l (i + 1) (v * 10 + (get_or l i 0 - 0x30))
unfolding decimal
reading_next l i v r h =
    let d = digit_small (get_or l i 0) (digit_next l i v r h) in
    let f = r.fits in record {
      here = omega arith;
      fits = rw (add-one, pow-succ') (omega arith);
      digits = and_second (is_digit (get_or l i 0)) (every is_digit (drop (i + 1) l)) (sym (every_from is_digit l i 0 h) ∙ r.digits);
      is = r.is ∙ ap (λ (t : List ℕ). v * 10 ^ length t + decimal t) (from l i 0 h) ∙ shift_in v (get_or l i 0 - 0x30) (length (drop (i + 1) l)) (decimal (drop (i + 1) l));
    }

pub reading_all : (l : List ℕ) (i v : ℕ) → Reading l i v → length l ≤ i → v ≡ decimal l
unfolding decimal
reading_all l i v r h = sym (r.is ∙ ap (λ (t : List ℕ). v * 10 ^ length t + decimal t) (behind l i h) ∙ rw (pow-zero, mul-one, add-zero))

-- what fewer than sixteen digits write is small
pub reading_small : (l : List ℕ) (i v : ℕ) → Reading l i v → i ≤ 15 → v < 1000000000000000
reading_small l i v r h =
    let p : 10 ^ i ≤ 10 ^ 15 = pow-le-pow_right (omega arith) h in
    let f = r.fits in
    omega arith

-- of one to sixteen bytes the digits decide
pub number_digits : (p : List ℕ) → 1 ≤ length p → length p ≤ 16 → read_digits p ≡ cond (every is_digit p) (Some (decimal p)) None
unfolding read_digits
number_digits p low high = rw (le-leb 1 (length p) low, le-leb (length p) 16 high)

-- a number that was read is what the digits write, and there is none where a byte is no digit
pub number_is : (p : List ℕ) (r : Option ℕ) (v : ℕ) → r ≡ read_digits p → r ≡ Some v → (every is_digit p ≡ true) × (v ≡ decimal p)
unfolding read_digits
number_is p r v e f = go (leb 1 (length p) && leb (length p) 16) (every is_digit p) refl (sym e ∙ f)
  where
    go : (a b : Bool) → every is_digit p ≡ b → cond (a && b) (Some (decimal p)) None ≡ Some v → (every is_digit p ≡ true) × (v ≡ decimal p)
    go true true t q = (t, cc)
    go true false t q = let z : ◌≡◌ {A = ℕ} 0 1 = cc in absurd (omega arith)
    go false b t q = let z : ◌≡◌ {A = ℕ} 0 1 = cc in absurd (omega arith)

pub number_not : (p : List ℕ) (r : Option ℕ) → 1 ≤ length p → length p ≤ 16 → r ≡ read_digits p → r ≡ None → every is_digit p ≡ false
number_not p r low high e f = go (every is_digit p) (sym (number_digits p low high) ∙ sym e ∙ f)
  where
    go : (b : Bool) → cond b (Some (decimal p)) None ≡ None → b ≡ false
    go true q = let z : ◌≡◌ {A = ℕ} 0 1 = cc in absurd (omega arith)
    go false q = refl
