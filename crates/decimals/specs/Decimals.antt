-- Decimal digits, the highest first.
use Rattle.std.specs.Prelude.{ℕ, zero, suc, ◌+◌, ◌-◌, ◌*◌, ◌/◌, ◌%◌, ◌^◌, Bool, not, cond, ◌&&◌, List, [], ◌∷◌, length, get_or, eqb, leb, ltb, Option, Some, None}
use Rattle.laws.specs.Lists.{every}
use Rattle.decimals.specs.declared.Text.{Text}
use Rattle.decimals.specs.Texts.{text}

-- a byte `0` to `9`
unfoldable pub is_digit : ℕ → Bool
is_digit b = leb 0x30 b && leb b 0x39

-- the number that digits write
unfoldable pub decimal : List ℕ → ℕ
decimal [] = 0
decimal (b ∷ bs) = (b - 0x30) * 10 ^ length bs + decimal bs

-- the n last digits of a number
unfoldable pub in_digits : ℕ → ℕ → List ℕ
in_digits zero v = []
in_digits (suc n) v = (0x30 + v / 10 ^ n % 10) ∷ in_digits n v

-- the number that one to sixteen decimal digits write, and nothing else
unfoldable pub read_digits : List ℕ → Option ℕ
read_digits p = cond (leb 1 (length p) && leb (length p) 16 && every is_digit p) (Some (decimal p)) None

-- a leading zero: `0` alone has none
unfoldable pub leads_zero : List ℕ → Bool
leads_zero s = not (eqb (length s) 1) && eqb (get_or s 0 0) 0x30

-- digits, with "no sign, no leading zero"
unfoldable pub is_numeral : List ℕ → Bool
is_numeral s = leb 1 (length s) && every is_digit s && not (leads_zero s)

-- such a number up to a most, or none
unfoldable pub up_to : ℕ → List ℕ → Option ℕ
up_to most s = cond (is_numeral s && leb (decimal s) most) (Some (decimal s)) None

-- a number below 1000 in decimal, without leading zeros
unfoldable pub numeral : ℕ → List ℕ
numeral v = cond (ltb v 10) (in_digits 1 v) (cond (ltb v 100) (in_digits 2 v) (in_digits 3 v))

-- the same at the front of three bytes, and how many of them it fills
unfoldable pub spelled : ℕ → Text 3
spelled v = text 3 (numeral v)
