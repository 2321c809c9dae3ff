-- Document 01, "The box and its messages": the checksum test.
use Rattle.std.specs.Prelude.{ℕ, ◌+◌, ◌%◌, Bool, List, [], ◌∷◌, ◌==◌}

-- the sum of the bytes of an area; that of an empty one is 0
unfoldable pub sum_of : List ℕ → ℕ
sum_of [] = 0
sum_of (x ∷ xs) = x + sum_of xs

-- "yes exactly when the bytes of its area sum to 0 modulo 256"
abbrev pub sums_to_zero : List ℕ → Bool
sums_to_zero area = sum_of area % 256 == 0
