-- A number without leading zeros: the width is the first whose power of ten is above the number, which is one above the number's logarithm.
use mathlib.Core.Path.{◌≡◌, refl}
use mathlib.Core.Bool.{Bool, true, false, cond}
use Prim.Native.Nat.{ℕ, zero, suc, ◌+◌, ◌*◌, ◌^◌, ◌<◌, ◌≤◌}
use native.Mathlib.Nat.{pow-succ', pow-le-pow_right}
use native.Mathlib.Omega.{arith}
use lib.Dec.{leb, ltb}
use borrow.Author.Tests.{ltb-true, ltb-false, leb-true, leb-false}
use Rattle.decimals.specs.Plain.{width, width_from}

-- the power above v is not among the widths up to k
above : (k j v : ℕ) → 10 ^ k ≤ v → v < 10 ^ j → k < j
above k j v low h = go (leb j k) refl
  where
    go : (b : Bool) → leb j k ≡ b → k < j
    go true e = let p : 10 ^ j ≤ 10 ^ k = pow-le-pow_right {n = 10} (omega arith) (leb-true j k e) in absurd (omega (arith, p))
    go false e = leb-false j k e

-- n widths tried from j on, of which k + 1 is one
from_on : (n j k v : ℕ) → 10 ^ k ≤ v → v < 10 ^ suc k → j ≤ suc k → suc k ≤ j + n → width_from n j v ≡ suc k
unfolding width_from
from_on zero j k v low high a b = omega arith
from_on (suc n) j k v low high a b = go (ltb v (10 ^ j)) refl (from_on n (suc j) k v low high)
  where
    go : (t : Bool) → ltb v (10 ^ j) ≡ t → (suc j ≤ suc k → suc k ≤ suc j + n → width_from n (suc j) v ≡ suc k) → cond t j (width_from n (suc j) v) ≡ suc k
    go true e next = let h = above k j v low (ltb-true v (10 ^ j) e) in omega arith
    go false e next = next (let h = above j (suc k) v (ltb-false v (10 ^ j) e) high in omega arith) (omega arith)

pub width_is : (v k : ℕ) → 10 ^ k ≤ v → v < 10 * 10 ^ k → k < 10 → width v ≡ k + 1
unfolding width
width_is v k low high small =
    let p : 10 ^ suc k ≡ 10 * 10 ^ k = rw pow-succ' in
    let e = from_on 9 1 k v low (omega arith) (omega arith) (omega arith) in
    omega arith

pub width_zero : width 0 ≡ 1
unfolding width width_from
width_zero = refl
