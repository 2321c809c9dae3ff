-- docs/SCRIPTS.md, "Lines": HEX.
use Rattle.std.specs.Prelude.{ℕ, ◌-◌, ◌%◌, Bool, cond, ◌&&◌, ◌||◌, List, eqb, leb, length}
use Rattle.laws.specs.Bytes.{ascii, same}
use Rattle.laws.specs.Lists.{every}
use Rattle.decimals.specs.Decimals.{is_digit}

-- "hex digits, either case"
unfoldable pub is_hex_digit : ℕ → Bool
is_hex_digit b = is_digit b || leb 0x41 b && leb b 0x46 || leb 0x61 b && leb b 0x66

unfoldable pub hex_value : ℕ → ℕ
hex_value b =
    cond (is_digit b) (b - 0x30)
    (cond (leb 0x41 b && leb b 0x46) (b - 0x37)
    (cond (leb 0x61 b && leb b 0x66) (b - 0x57)
    0))

-- "HEX is an even number of hex digits, either case, or a lone `-` for no bytes; at most 1,024 bytes."
unfoldable pub is_hex : List ℕ → Bool
is_hex w =
    same w (ascii "-")
    || leb 1 (length w) && leb (length w) 2048 && eqb (length w % 2) 0 && every is_hex_digit w
