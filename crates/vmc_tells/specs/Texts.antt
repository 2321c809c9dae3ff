-- Document 01, "SDCP and VMC": "OK carries the words that would set the present value, as `VOLUME 40`, `MODE2`,
-- `CAMERA FOCUS OFF`, `SHIFTH +5`, `SHIFTH 0` (house)."
use Rattle.std.specs.Prelude.{ℕ, ◌+◌, cond, List, [], ◌∷◌, ◌++◌, eqb, ltb, ℤ, pos, negsuc}
use Rattle.laws.specs.Bytes.{ascii}
use Rattle.decimals.specs.Decimals.{numeral}
use Rattle.settings.specs.Table.{level_count}
use Rattle.setting_texts.specs.Names.{lead_of, word_of}
use Rattle.vmc_tells.specs.declared.Says.{Says}
use Rattle.vmc_tells.specs.declared.Says.TheVariants.{Bare, Value, Offset}

-- the words of a value: a level's number, or a choice's word
unfoldable pub value_words : ℕ → ℕ → List ℕ
value_words k v = cond (ltb k level_count) (numeral v) (word_of k v)

-- a shift's size and sign
abbrev pub size_of : ℤ → ℕ
size_of (pos n) = n
size_of (negsuc n) = n + 1

abbrev pub sign_of : ℤ → ℕ
sign_of (pos n) = 0x2b
sign_of (negsuc n) = 0x2d

-- the words of a shift: its sign and its size, save 0
unfoldable pub shift_words : ℤ → List ℕ
shift_words z = cond (eqb (size_of z) 0) (ascii "0") (sign_of z ∷ numeral (size_of z))

-- the words that would set a value
unfoldable pub set_words : ℕ → ℕ → List ℕ
set_words k v = lead_of k ++ value_words k v

unfoldable pub move_words : ℕ → ℤ → List ℕ
move_words k z = lead_of k ++ shift_words z

unfoldable pub text_of : Says → List ℕ
text_of Bare = []
text_of (Value k v) = set_words k v
text_of (Offset k z) = move_words k z
