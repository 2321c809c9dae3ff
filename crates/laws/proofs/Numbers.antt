-- High-first numbers, both ways and at every width: dividing by 256 ^ n takes the first of n + 1 bytes off.
use mathlib.Core.Path.{◌≡◌, refl, sym, ap, ◌∙◌}
use mathlib.Core.List.{List, [], ◌∷◌}
use Prim.Native.Nat.{ℕ, zero, suc, ◌+◌, ◌*◌, ◌/◌, ◌%◌, ◌^◌, ◌<◌}
use native.Mathlib.Omega.{arith}
use native.Mathlib.Nat.{pow-succ', pow-zero, one-le-pow, mul_assoc, add-mul-div_right, add_comm, mul-add-mod_self_right, mod-eq_of_lt, mod-one}
use lib.Arith.{digits_lt, digits_div, mod-mul}
use lib.ListN.{length}
use Rattle.laws.specs.Bytes.{Bytes}
use Rattle.laws.specs.Numbers.{number, in_bytes}

pub positive : (b n : ℕ) → 0 < b → 0 < b ^ n
positive b n h = let p = one-le-pow n b h in omega arith

-- in any base b: a number above n + 1 digits is one above n digits, and does not show in the first of them
pub above : (b n a : ℕ) → a * b ^ suc n ≡ a * b * b ^ n
above b n a = rw pow-succ' (sym (mul_assoc a b (b ^ n)))

pub first_under : (b n a v : ℕ) → 0 < b → (a * b ^ suc n + v) / b ^ n % b ≡ v / b ^ n % b
first_under b n a v h =
    ap (λ (x : ℕ). x / b ^ n % b) (ap (λ (x : ℕ). x + v) (above b n a) ∙ add_comm (a * b * b ^ n) v)
    ∙ ap (λ (x : ℕ). x % b) (add-mul-div_right v (a * b) (positive b n h) ∙ add_comm (v / b ^ n) (a * b))
    ∙ mul-add-mod_self_right a b (v / b ^ n)

pub length_in_bytes : (n v : ℕ) → length (in_bytes n v) ≡ n
unfolding in_bytes
length_in_bytes zero v = refl
length_in_bytes (suc n) v = ap suc (length_in_bytes n v)

-- written, then read: the number, modulo what n bytes can hold
read_written : (n v : ℕ) → number (in_bytes n v) ≡ v % 256 ^ n
unfolding number in_bytes
read_written zero v = sym (rw pow-zero (mod-one v))
read_written (suc n) v =
    ap (λ (k : ℕ). v / 256 ^ n % 256 * 256 ^ k + number (in_bytes n v)) (length_in_bytes n v)
    ∙ ap (λ (x : ℕ). v / 256 ^ n % 256 * 256 ^ n + x) (read_written n v)
    ∙ sym (rw pow-succ' (mod-mul v {m = 256} {c = 256 ^ n} (omega arith) (positive 256 n (omega arith))))

pub number_in_bytes : (n v : ℕ) → v < 256 ^ n → number (in_bytes n v) ≡ v
number_in_bytes n v h = read_written n v ∙ mod-eq_of_lt h

-- what stands above the n bytes does not show in them
low_bytes : (n a v : ℕ) → in_bytes n (a * 256 ^ n + v) ≡ in_bytes n v
unfolding in_bytes
low_bytes zero a v = refl
low_bytes (suc n) a v =
    ap (λ (x : ℕ). x ∷ in_bytes n (a * 256 ^ suc n + v)) (first_under 256 n a v (omega arith))
    ∙ ap (λ (x : ℕ). (v / 256 ^ n % 256) ∷ in_bytes n (x + v)) (above 256 n a)
    ∙ ap (λ (l : List ℕ). (v / 256 ^ n % 256) ∷ l) (low_bytes n (a * 256) v)

-- bytes write a number that they can hold
pub number_fits : (l : List ℕ) → Bytes l → number l < 256 ^ length l
unfolding number
number_fits [] b = rw pow-zero (omega arith)
number_fits (x ∷ l) b = rw pow-succ' (digits_lt (b 0) (number_fits l (λ i. b (suc i))))

-- read, then written: the bytes
pub in_bytes_number : (l : List ℕ) → Bytes l → in_bytes (length l) (number l) ≡ l
unfolding number in_bytes
in_bytes_number [] b = refl
in_bytes_number (x ∷ l) b =
    let rest = number_fits l (λ i. b (suc i)) in
    let first : (x * 256 ^ length l + number l) / 256 ^ length l % 256 ≡ x =
    ap (λ (y : ℕ). y % 256) (digits_div x rest) ∙ mod-eq_of_lt (b 0) in
    ap (λ (y : ℕ). y ∷ in_bytes (length l) (x * 256 ^ length l + number l)) first
    ∙ ap (λ (t : List ℕ). x ∷ t) (low_bytes (length l) x (number l) ∙ in_bytes_number l (λ i. b (suc i)))
