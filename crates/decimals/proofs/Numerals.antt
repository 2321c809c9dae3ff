-- Numbers without sign or leading zero: they write a number of their length, so one of seventeen digits is over any most of 32 bits.
use Prim.Native.Nat.{ℕ, ◌-◌, ◌*◌, ◌^◌, ◌<◌, ◌≤◌}
use mathlib.Core.Path.{◌≡◌, refl, sym, ap, ◌∙◌}
use mathlib.Core.Bool.{Bool, true, false, not, cond, ◌&&◌}
use mathlib.Core.List.{List, [], ◌∷◌}
use native.Mathlib.Omega.{arith}
use native.Mathlib.Nat.{pow-le-pow_right, mul-le-mul_right, one-mul}
use lib.Dec.{eqb, leb}
use lib.ListN.{length, get_or}
use borrow.Author.Tests.{le-leb, lt-leb, leb-true, leb-false, ne_eqb, eqb-false}
use Rattle.laws.specs.Lists.{every}
use Rattle.laws.proofs.Conditions.{and_first, and_second, false_true}
use Rattle.decimals.specs.Decimals.{is_digit, decimal, read_digits, leads_zero, is_numeral, up_to}
use Rattle.std.specs.Prelude.{Option, Some, None}
use Rattle.decimals.proofs.Decimals.{digit_low}

-- a number that was read is at most m
abbrev pub Most : ℕ → Option ℕ → Type 0
Most m (Some v) = v ≤ m
Most m None = Unit {0}

pub up_to_most : (most : ℕ) (s : List ℕ) → Most most (up_to most s)
unfolding up_to
up_to_most most s = go (is_numeral s && leb (decimal s) most) refl
  where
    go : (b : Bool) → (is_numeral s && leb (decimal s) most) ≡ b → Most most (cond b (Some (decimal s)) None)
    go true e = leb-true (decimal s) most (and_second (is_numeral s) (leb (decimal s) most) e)
    go false e = tt

never : (b : Bool) → (b && false) ≡ false
never true = refl
never false = refl

-- no such number: no numeral, or a number over the most
no_numeral : (most : ℕ) (s : List ℕ) → is_numeral s ≡ false → up_to most s ≡ None
unfolding up_to
no_numeral most s e = rw e

over : (most : ℕ) (s : List ℕ) → most < decimal s → up_to most s ≡ None
unfolding up_to
over most s h = rw (lt-leb (decimal s) most h, never (is_numeral s))

long_lead : (s : List ℕ) → 2 ≤ length s → leads_zero s ≡ eqb (get_or s 0 0) 0x30
unfolding leads_zero
long_lead s h = rw (ne_eqb (length s) 1 (λ e. omega arith))

pub zero_no_number : (most : ℕ) (s : List ℕ) → leads_zero s ≡ true → up_to most s ≡ None
unfolding is_numeral
zero_no_number most s e = no_numeral most s (rw e (never (leb 1 (length s) && every is_digit s)))

-- digits that begin with no `0` write a number of their length
long_number : (b : ℕ) (l : List ℕ) → 0x31 ≤ b → 10 ^ length l ≤ decimal (b ∷ l)
unfolding decimal
long_number b l h =
    let one : 1 ≤ b - 0x30 = omega arith in
    let m : 1 * 10 ^ length l ≤ (b - 0x30) * 10 ^ length l = mul-le-mul_right (10 ^ length l) one in
    let e = one-mul (10 ^ length l) in
    omega (arith, m, e)

-- a numeral is digits, and one of two digits or more begins with no `0`
pub numeral_digits : (s : List ℕ) → is_numeral s ≡ true → every is_digit s ≡ true
unfolding is_numeral
numeral_digits s e = and_second (leb 1 (length s)) (every is_digit s) (and_first (leb 1 (length s) && every is_digit s) (not (leads_zero s)) e)

numeral_lead : (b : ℕ) (l : List ℕ) → is_numeral (b ∷ l) ≡ true → 0 < length l → 0x31 ≤ b
unfolding is_numeral
numeral_lead b l e h =
    let d = digit_low b (and_first (is_digit b) (every is_digit l) (numeral_digits (b ∷ l) e)) in
    let f : not (leads_zero (b ∷ l)) ≡ true = and_second (leb 1 (length (b ∷ l)) && every is_digit (b ∷ l)) (not (leads_zero (b ∷ l))) e in
    let z : b ≡ 0x30 → ⊥ = eqb-false b 0x30 (other (eqb b 0x30) (ap not (sym (long_lead (b ∷ l) (omega arith))) ∙ f)) in
    omega arith
  where
    other : (x : Bool) → not x ≡ true → x ≡ false
    other true e = absurd (false_true e)
    other false e = refl

-- so it writes a number of its length
pub numeral_long : (b : ℕ) (l : List ℕ) → is_numeral (b ∷ l) ≡ true → 0 < length l → 10 ^ length l ≤ decimal (b ∷ l)
numeral_long b l e h = long_number b l (numeral_lead b l e h)

-- seventeen digits or more write 10 ^ 16 or more
long_over : (most b : ℕ) (l : List ℕ) → most < 4294967296 → is_numeral (b ∷ l) ≡ true → 16 ≤ length l → most < decimal (b ∷ l)
long_over most b l m e h =
    let p : 10 ^ 16 ≤ 10 ^ length l = pow-le-pow_right {n = 10} (omega arith) h in
    let k = numeral_long b l e (omega arith) in
    omega (arith, p, k)

long_no_number : (most : ℕ) (s : List ℕ) → most < 4294967296 → 16 < length s → up_to most s ≡ None
long_no_number most [] m h = absurd (omega arith)
long_no_number most (b ∷ l) m h = go (is_numeral (b ∷ l)) refl
  where
    go : (x : Bool) → is_numeral (b ∷ l) ≡ x → up_to most (b ∷ l) ≡ None
    go false e = no_numeral most (b ∷ l) e
    go true e = over most (b ∷ l) (long_over most b l m e (omega arith))

-- what the number reader read, up to a most
abbrev pub capped : ℕ → Option ℕ → Option ℕ
capped most (Some v) = cond (leb v most) (Some v) None
capped most None = None

short_number : (most : ℕ) (s : List ℕ) → length s ≤ 16 → leads_zero s ≡ false → up_to most s ≡ capped most (read_digits s)
unfolding up_to is_numeral read_digits
short_number most s h z = rw (z, le-leb (length s) 16 h) (go (leb 1 (length s)) (every is_digit s))
  where
    go : (a b : Bool) → cond (a && b && true && leb (decimal s) most) (Some (decimal s)) None ≡ capped most (cond (a && true && b) (Some (decimal s)) None)
    go true true = refl
    go true false = refl
    go false true = refl
    go false false = refl

long_not : (s : List ℕ) → 16 < length s → read_digits s ≡ None
unfolding read_digits
long_not s h = rw (lt-leb (length s) 16 h, never (leb 1 (length s)))

-- so a text without a leading zero is read by the number reader, and cut at the most
pub plain_number : (most : ℕ) (s : List ℕ) → most < 4294967296 → leads_zero s ≡ false → up_to most s ≡ capped most (read_digits s)
plain_number most s m z = go (leb (length s) 16) refl
  where
    go : (b : Bool) → leb (length s) 16 ≡ b → up_to most s ≡ capped most (read_digits s)
    go true e = short_number most s (leb-true (length s) 16 e) z
    go false e = let h = leb-false (length s) 16 e in long_no_number most s m h ∙ sym (ap (capped most) (long_not s h))
