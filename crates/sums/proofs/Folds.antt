-- Added up with wrap-around the bytes give their sum modulo 256: each turn drops only multiples of 256.
use Rattle.std.proofs.Common.{◌≡◌, ℕ, ◌+◌, ◌%◌, ◌^◌, ◌<◌, List, [], ◌∷◌, arith}
use Rattle.std.specs.List.{fold}
use Rattle.sums.specs.Sums.{sum_of}

folded_from : (s : List ℕ) (a : ℕ) → a < 256 → (a + sum_of s) % 256 ≡ fold (λ sum byte. (sum + byte) % 2 ^ 8) a s
unfolding sum_of
folded_from [] a h = omega arith
folded_from (x ∷ s) a h =
    let e = folded_from s ((a + x) % 2 ^ 8) (omega arith) in
    omega (arith, e)

pub folded : (s : List ℕ) → sum_of s % 256 ≡ fold (λ sum byte. (sum + byte) % 2 ^ 8) 0 s
folded s = omega (arith, folded_from s 0 (omega arith))
