-- HEX words: byte i is written by digits 2i and 2i + 1, and no word writes more than 1,024 bytes.
use Prim.Native.Nat.{◌%◌, ◌*◌, ◌+◌, ◌/◌, ◌<◌, ◌≤◌, suc, zero, ℕ}
use mathlib.Core.Bool.{Bool, ◌&&◌, ◌||◌, false, true}
use mathlib.Core.List.{List, [], ◌∷◌}
use mathlib.Core.Path.{◌≡◌, ap, refl}
use native.Mathlib.Omega.{arith}
use lib.Dec.{eqb, leb}
use lib.ListN.{get_or, length}
use borrow.Author.Tests.{leb-true}
use Rattle.laws.proofs.Conditions.{and_first, and_second, choose}
use Rattle.laws.proofs.Lists.{same_is}
use Rattle.laws.specs.Bytes.{ascii, same}
use Rattle.laws.specs.Lists.{every}
use Rattle.script_words.specs.Words.{bytes_at, bytes_in, word_at}
use Rattle.script_hex.specs.Hex.{hex_value, is_hex, is_hex_digit}

pub pairs_length : (w : List ℕ) → length (bytes_in w) ≡ length w / 2
unfolding bytes_in
pairs_length [] = refl
pairs_length (x ∷ []) = refl
pairs_length (x ∷ y ∷ w) = let h = pairs_length w in omega arith

pub pair_at_lem : (w : List ℕ) (i : ℕ) → i * 2 + 1 < length w → get_or (bytes_in w) i 0 ≡ hex_value (get_or w (i * 2) 0) * 16 + hex_value (get_or w (i * 2 + 1) 0)
unfolding bytes_in
pair_at_lem [] i h = absurd (omega arith)
pair_at_lem (x ∷ []) i h = absurd (omega arith)
pair_at_lem (x ∷ y ∷ w) zero h = refl
pair_at_lem (x ∷ y ∷ w) (suc i) h =
    let e : suc i * 2 ≡ suc (suc (i * 2)) = omega arith in
    let f : suc i * 2 + 1 ≡ suc (suc (i * 2 + 1)) = omega arith in
    rw (f, e) (pair_at_lem w i (omega arith))

-- a HEX word is at most 2048 digits long
pub hex_fits : (w : List ℕ) → is_hex w ≡ true → length w ≤ 2048
unfolding is_hex
hex_fits w e = go (same w (ascii "-")) refl e
  where
    go : (b : Bool) → same w (ascii "-") ≡ b → (b || leb 1 (length w) && leb (length w) 2048 && eqb (length w % 2) 0 && every is_hex_digit w) ≡ true → length w ≤ 2048
    go true q t = let h = ap length (same_is w (ascii "-") q) in omega arith
    go false q t = leb-true (length w) 2048 (and_second (leb 1 (length w)) (leb (length w) 2048) (and_first (leb 1 (length w) && leb (length w) 2048) (eqb (length w % 2) 0) (and_first (leb 1 (length w) && leb (length w) 2048 && eqb (length w % 2) 0) (every is_hex_digit w) t)))

-- the bytes of a word, by what `is_hex` says of it
pub hex_bytes : (k : ℕ) (line : List ℕ) → is_hex (word_at k line) ≡ true → bytes_at k line ≡ bytes_in (word_at k line)
unfolding bytes_at
hex_bytes k line e = rw e

pub no_bytes : (k : ℕ) (line : List ℕ) → is_hex (word_at k line) ≡ false → bytes_at k line ≡ []
unfolding bytes_at
no_bytes k line e = rw e

pub bytes_most : (k : ℕ) (line : List ℕ) → length (bytes_at k line) ≤ 1024
unfolding bytes_at
bytes_most k line =
    choose (λ (l : List ℕ). length l ≤ 1024) (is_hex (word_at k line)) (bytes_in (word_at k line)) []
    (λ e. omega (arith, pairs_length (word_at k line), hex_fits (word_at k line) e))
    (λ e. omega arith)
