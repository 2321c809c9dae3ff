-- The library's bytes of a number, the high byte first, are the document's, wherever they are read or laid.
use Rattle.std.proofs.Common.{ℕ, ◌+◌, ◌≤◌, List, [], ◌∷◌, ◌++◌, length, ◌≡◌, ap, ◌∙◌, arith}
use Rattle.std.specs.Int.{w16, w32, from_be_bytes, to_be_bytes}
use Rattle.laws.specs.Bytes.{laid}
use Rattle.laws.specs.Numbers.{number, in_bytes}
use Rattle.laws.proofs.Areas.{Laid, laid_more}
use Rattle.laws.proofs.Numbers.{length_in_bytes}
use Rattle.laws.proofs.Library.{number_two, number_four, in_two_bytes, in_four_bytes}

pub read_2 : (l : List ℕ) → length l ≡ 2 → from_be_bytes w16 l ≡ number l
read_2 [] e = absurd (omega arith)
read_2 (a ∷ []) e = absurd (omega arith)
read_2 (a ∷ b ∷ []) e = number_two a b
read_2 (a ∷ b ∷ c ∷ l) e = absurd (omega arith)

pub read_4 : (l : List ℕ) → length l ≡ 4 → from_be_bytes w32 l ≡ number l
read_4 [] e = absurd (omega arith)
read_4 (a ∷ []) e = absurd (omega arith)
read_4 (a ∷ b ∷ []) e = absurd (omega arith)
read_4 (a ∷ b ∷ c ∷ []) e = absurd (omega arith)
read_4 (a ∷ b ∷ c ∷ d ∷ []) e = number_four a b c d
read_4 (a ∷ b ∷ c ∷ d ∷ f ∷ l) e = absurd (omega arith)

-- a number laid over an area
pub laid_2 : {e bytes : List ℕ} (d : List ℕ) (n v : ℕ) → e ≡ laid d n bytes → bytes ≡ to_be_bytes w16 v → e ≡ laid d n (in_bytes 2 v)
laid_2 d n v p q = p ∙ ap (laid d n) (q ∙ in_two_bytes v)

pub laid_4 : {e bytes : List ℕ} (d : List ℕ) (n v : ℕ) → e ≡ laid d n bytes → bytes ≡ to_be_bytes w32 v → e ≡ laid d n (in_bytes 4 v)
laid_4 d n v p q = p ∙ ap (laid d n) (q ∙ in_four_bytes v)

-- a number laid behind what was laid before
pub more_4 : {d e : List ℕ} {n : ℕ} {vs bytes : List ℕ} {m : ℕ} (f : List ℕ) (v m' : ℕ) → Laid d e n vs m → f ≡ laid e m bytes → bytes ≡ to_be_bytes w32 v
    → m + 4 ≡ m' → m' ≤ length d → Laid d f n (vs ++ in_bytes 4 v) m'
more_4 {e = e} {m = m} f v m' l p q r h = laid_more f (in_bytes 4 v) 4 m' l (laid_4 e m v p q) (length_in_bytes 4 v) r h
