-- A number in decimal without leading zeros.
use Rattle.std.specs.Prelude.{ℕ, zero, suc, ◌^◌, cond, List, ltb}
use Rattle.decimals.specs.Decimals.{in_digits}

-- the first width from k on that holds a number, n widths tried
unfoldable pub width_from : ℕ → ℕ → ℕ → ℕ
width_from zero k v = k
width_from (suc n) k v = cond (ltb v (10 ^ k)) k (width_from n (suc k) v)

-- how many digits a number up to 4,294,967,295 takes: one to ten
unfoldable pub width : ℕ → ℕ
width v = width_from 9 1 v

unfoldable pub plain : ℕ → List ℕ
plain v = in_digits (width v) v
