-- docs/SCRIPTS.md: how bytes, numbers and what goes back are written.
use Rattle.std.specs.Prelude.{ℕ, ◌+◌, ◌/◌, ◌%◌, cond, List, [], ◌∷◌, ◌++◌, eqb, ltb, ℤ, pos, negsuc}
use Rattle.laws.specs.Bytes.{ascii}
use Rattle.laws.specs.Lists.{every}
use Rattle.decimals.specs.Plain.{plain}

-- "Output is in capitals."
unfoldable pub glyph : ℕ → ℕ
glyph d = cond (ltb d 10) (0x30 + d) (0x37 + d)

unfoldable pub pairs : List ℕ → List ℕ
pairs [] = []
pairs (b ∷ s) = glyph (b / 16) ∷ glyph (b % 16) ∷ pairs s

-- "`-` for none"
unfoldable pub hex_text : List ℕ → List ℕ
hex_text [] = ascii "-"
hex_text (b ∷ s) = pairs (b ∷ s)

-- a number or bytes behind a word
unfoldable pub number_text : List ℕ → ℕ → List ℕ
number_text word v = word ++ plain v

unfoldable pub bytes_text : List ℕ → List ℕ → List ℕ
bytes_text word bytes = word ++ hex_text bytes

-- "A bias below 0 is written with `-`."
unfoldable pub signed_text : ℤ → List ℕ
signed_text (pos n) = plain n
signed_text (negsuc n) = number_text (ascii "-") (n + 1)

-- "where a byte behind them is no longer A5h, the word ` spoiled` follows"
unfoldable pub spoiled_by : List ℕ → List ℕ
spoiled_by rest = cond (every (eqb 0xa5) rest) [] (ascii " spoiled")

-- "`answer A at P` where P is not 0"
unfoldable pub at_text : ℕ → List ℕ
at_text place = cond (eqb place 0) [] (number_text (ascii " at ") place)

unfoldable pub placed_text : ℕ → ℕ → List ℕ
placed_text answer place = number_text (ascii "answer ") answer ++ at_text place

-- "`answer A reply HEX`, HEX being as many bytes of the area's front as the box said that it wrote"
unfoldable pub reply_text : ℕ → ℕ → List ℕ → List ℕ → List ℕ
reply_text answer place reply rest = placed_text answer place ++ bytes_text (ascii " reply ") reply ++ spoiled_by rest
