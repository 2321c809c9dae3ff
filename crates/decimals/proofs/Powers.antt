-- The powers of ten: the table is computed to be them, and a number is its digit of a power times that power, and the rest.
use mathlib.Core.Path.{◌≡◌, sym, ap, ◌∙◌}
use mathlib.Core.List.{List, [], ◌∷◌}
use Prim.Native.Nat.{ℕ, suc, ◌+◌, ◌-◌, ◌*◌, ◌/◌, ◌%◌, ◌^◌, ◌<◌, ◌≤◌}
use native.Mathlib.Omega.{arith}
use native.Mathlib.Nat.{pow-succ', div-eq_of_lt, pow-le-pow_right, mod-lt, lt_of_mul-lt-mul_right}
use lib.Arith.{digits_div, digits_mod, mod-mul}
use lib.Dec.{eqb}
use lib.ListN.{get_or}
use borrow.Author.Tests.{eqb-true}
use Rattle.laws.proofs.Table.{below, sure}
use Rattle.laws.proofs.Numbers.{positive}

-- the code's table
abbrev pub powers : List ℕ
powers = 1000000000 ∷ 100000000 ∷ 10000000 ∷ 1000000 ∷ 100000 ∷ 10000 ∷ 1000 ∷ 100 ∷ 10 ∷ 1 ∷ []

pub power : (n : ℕ) → n < 10 → get_or powers n 0 ≡ 10 ^ (9 - n)
power n h = eqb-true (get_or powers n 0) (10 ^ (9 - n)) (sure _ (below 10 (λ (j : ℕ). eqb (get_or powers j 0) (10 ^ (9 - j))) tt n h))

-- each is a word
pub power_small : (j : ℕ) → j < 10 → 10 ^ j ≤ 1000000000
power_small j h =
    let k : j ≤ 9 = omega arith in
    let p : 10 ^ j ≤ 10 ^ 9 = pow-le-pow_right (omega arith) k in
    omega arith

-- a word has ten digits at most
pub word_fits : (v n : ℕ) → v < 4294967296 → 10 ≤ n → v < 10 ^ n
word_fits v n h k = let p : 10 ^ 10 ≤ 10 ^ n = pow-le-pow_right (omega arith) k in omega arith

-- a number that a power is above has `0` for its digit
pub no_digit : (v j : ℕ) → v < 10 ^ j → 0x30 + v / 10 ^ j % 10 ≡ 0x30
no_digit v j h = rw (div-eq_of_lt h)

-- so a word has `0` for each digit past the tenth
pub no_digit_past : (v n : ℕ) → v < 4294967296 → 9 < n → 0x30 + v / 10 ^ n % 10 ≡ 0x30
no_digit_past v n h k = no_digit v n (word_fits v n h (omega arith))

-- the last digits of a number, as so often a power and less than that power: they are its digit of that power, and the digits behind it
pub split : (v c rest j : ℕ) → c * 10 ^ j + rest ≡ v % 10 ^ suc j → rest < 10 ^ j → (c ≡ v / 10 ^ j % 10) × (rest ≡ v % 10 ^ j)
split v c rest j e h =
    let p = positive 10 j (omega arith) in
    let q : c * 10 ^ j + rest ≡ v / 10 ^ j % 10 * 10 ^ j + v % 10 ^ j = e ∙ rw pow-succ' (mod-mul v {m = 10} {c = 10 ^ j} (omega arith) p) in
    let b = mod-lt v {m = 10 ^ j} p in
    (sym (digits_div c h) ∙ ap (λ (x : ℕ). x / 10 ^ j) q ∙ digits_div (v / 10 ^ j % 10) b, sym (digits_mod c h) ∙ ap (λ (x : ℕ). x % 10 ^ j) q ∙ digits_mod (v / 10 ^ j % 10) b)

-- a power goes fewer than ten times into the last digits
pub nine_times : (v c rest j : ℕ) → c * 10 ^ j + rest ≡ v % 10 ^ suc j → c < 10
nine_times v c rest j e =
    let b = mod-lt v {m = 10 ^ suc j} (positive 10 (suc j) (omega arith)) in
    let p : 10 ^ suc j ≡ 10 * 10 ^ j = rw pow-succ' in
    lt_of_mul-lt-mul_right (10 ^ j) (omega arith)
