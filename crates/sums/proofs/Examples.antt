-- The bench frames' sums, from the byte count to the checksum, by computation.
use Rattle.std.proofs.Common.{◌≡◌, true, false, [], ◌∷◌, replicate, refl}
use Rattle.sums.specs.Sums.{sum_of, sums_to_zero}

-- an empty area is a yes
empty : sums_to_zero [] ≡ true
unfolding sum_of
empty = refl

-- 03 01 41 6E 4D, and the same with last byte 4E
bench : sums_to_zero (0x03 ∷ 0x01 ∷ 0x41 ∷ 0x6e ∷ 0x4d ∷ []) ≡ true
unfolding sum_of
bench = refl

spoiled : sums_to_zero (0x03 ∷ 0x01 ∷ 0x41 ∷ 0x6e ∷ 0x4e ∷ []) ≡ false
unfolding sum_of
spoiled = refl

-- a sum that goes round many times
long : sums_to_zero (replicate 512 255) ≡ true
unfolding sum_of
long = refl
