-- "Numbers are high byte first."
use Rattle.std.specs.Prelude.{ℕ, zero, suc, ◌+◌, ◌*◌, ◌/◌, ◌%◌, ◌^◌, List, [], ◌∷◌, length}

-- the number that bytes write, the high byte first
unfoldable pub number : List ℕ → ℕ
number [] = 0
number (b ∷ bs) = b * 256 ^ length bs + number bs

-- the n bytes that write a number
unfoldable pub in_bytes : ℕ → ℕ → List ℕ
in_bytes zero v = []
in_bytes (suc n) v = (v / 256 ^ n % 256) ∷ in_bytes n v
