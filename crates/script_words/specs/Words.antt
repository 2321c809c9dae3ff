-- docs/SCRIPTS.md, "Lines": the words of a line, and what a word says.
use Rattle.std.specs.Prelude.{ℕ, Option, Some, None, ◌+◌, ◌*◌, cond, List, [], ◌∷◌, eqb, get_or}
use Rattle.decimals.specs.Decimals.{up_to}
use Rattle.script_hex.specs.Hex.{hex_value, is_hex}

-- what stands before the first c
unfoldable pub before : ℕ → List ℕ → List ℕ
before c [] = []
before c (x ∷ s) = cond (eqb x c) [] (x ∷ before c s)

-- "A line ends with 0Ah; the last may lack it."
abbrev pub line_of : List ℕ → List ℕ
line_of s = before 0x0a s

abbrev pub to_first : ℕ → List (List ℕ) → List (List ℕ)
to_first x [] = (x ∷ []) ∷ []
to_first x (w ∷ ws) = (x ∷ w) ∷ ws

-- "Words are parted by one space": a space too many makes an empty word, and no order takes one
unfoldable pub words_in : List ℕ → List (List ℕ)
words_in [] = [] ∷ []
words_in (x ∷ s) = cond (eqb x 0x20) ([] ∷ words_in s) (to_first x (words_in s))

abbrev pub word_at : ℕ → List ℕ → List ℕ
word_at k line = get_or (words_in line) k []

-- "N is a decimal number without sign or leading zero"; 0 where the word is none up to `most`
abbrev pub value_of : Option ℕ → ℕ
value_of (Some v) = v
value_of None = 0

unfoldable pub number_at : ℕ → ℕ → List ℕ → ℕ
number_at most k line = value_of (up_to most (word_at k line))

-- the bytes that pairs of hex digits write
unfoldable pub bytes_in : List ℕ → List ℕ
bytes_in [] = []
bytes_in (x ∷ []) = []
bytes_in (x ∷ y ∷ s) = (hex_value x * 16 + hex_value y) ∷ bytes_in s

-- the bytes of a HEX word; none where the word is no HEX
unfoldable pub bytes_at : ℕ → List ℕ → List ℕ
bytes_at k line = cond (is_hex (word_at k line)) (bytes_in (word_at k line)) []
