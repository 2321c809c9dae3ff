-- docs/SCRIPTS.md, "Lines": the kinds of words.
use Rattle.std.specs.Prelude.{ℕ, Option, Some, None, Bool, true, false, ◌&&◌, ◌||◌, List, [], ◌∷◌, ltb}
use Rattle.laws.specs.Bytes.{ascii, same}
use Rattle.decimals.specs.Decimals.{up_to}
use Rattle.script_hex.specs.Hex.{is_hex}
use Rattle.script_words.specs.Words.{value_of}
use Rattle.script_words.specs.declared.Kind.{Kind}
use Rattle.script_words.specs.declared.Kind.TheVariants.{Hex, Family, Link, Number}

-- "N is [..] at most 4,294,967,295"
abbrev pub most_n : ℕ
most_n = 4294967295

-- "a reply area of AREA bytes (0 to 1,024)"
abbrev pub most_area : ℕ
most_area = 1024

-- "the receiver of TCP link LINK (1 to 8)"
abbrev pub most_link : ℕ
most_link = 8

abbrev pub is_number : Option ℕ → Bool
is_number (Some v) = true
is_number None = false

-- "its family (W or K)"
unfoldable pub is_family : List ℕ → Bool
is_family w = same w (ascii "W") || same w (ascii "K")

-- "LINK (1 to 8)": 0 is no link, and a word that is no number up to 8 has the value 0
unfoldable pub is_link : List ℕ → Bool
is_link w = ltb 0 (value_of (up_to most_link w))

unfoldable pub is_kind : Kind → List ℕ → Bool
is_kind Hex w = is_hex w
is_kind Family w = is_family w
is_kind Link w = is_link w
is_kind (Number most) w = is_number (up_to most w)

-- a word of each kind, and no more: not "too many or too few words"
unfoldable pub shaped : List Kind → List (List ℕ) → Bool
shaped [] [] = true
shaped [] (w ∷ ws) = false
shaped (k ∷ ks) [] = false
shaped (k ∷ ks) (w ∷ ws) = is_kind k w && shaped ks ws
