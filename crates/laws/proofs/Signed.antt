-- Signed numbers: in a range both bounds are asked in turn, of the number that the bits say; and 0 less a size is below 0.
use mathlib.Core.Path.{◌≡◌, refl, sym, ap, subst, ◌∙◌}
use mathlib.Core.Bool.{true, false, ◌&&◌}
use Prim.Native.Nat.{ℕ, zero, suc, ◌-◌, ◌^◌, ◌<◌}
use native.Mathlib.Omega.{arith}
use lib.Dec.{leb-zero}
use lib.IntN.{ℤ, pos, negsuc, suc_ℤ, ◌+ℤ◌, ◌-ℤ◌, +ℤ_one, +ℤ_idl}
use lib.Signed.{le_z}
use mir.Syntax.{Width}
use mir.Val.{to_z, of_z, SFits, hbits}
use mir.Facts.{to_z-of_z, to_z_pos}

-- z is the number, t what its bits say
pub from_low : (lo hi z t : ℤ) → t ≡ z → le_z lo t ≡ true → le_z t hi ≡ (le_z lo z && le_z z hi)
from_low lo hi z t e p = rw (e, ap (le_z lo) (sym e) ∙ p)

pub under_low : (lo hi z t : ℤ) → t ≡ z → le_z lo t ≡ false → false ≡ (le_z lo z && le_z z hi)
under_low lo hi z t e p = rw (ap (le_z lo) (sym e) ∙ p)

-- 0 less a size
pub zero_less : (n : ℕ) → 0 < n → pos 0 -ℤ pos n ≡ negsuc (n - 1)
zero_less zero h = absurd (omega arith)
zero_less (suc n) h = +ℤ_idl (negsuc n) ∙ ap negsuc (omega arith)

-- the same as code of width w holds it: the size is what its bits say, and 0 less it fits
module _ (w : Width) (n : ℕ) (h : n < 2 ^ hbits w) where
  minus : pos 0 -ℤ to_z w n ≡ pos 0 -ℤ pos n
  minus = ap (λ (z : ℤ). pos 0 -ℤ z) (to_z_pos w h)

  pub minus_fits : SFits w (pos 0 -ℤ to_z w n)
  minus_fits = subst (SFits w) (sym minus) (less n h)
    where
      less : (k : ℕ) → k < 2 ^ hbits w → SFits w (pos 0 -ℤ pos k)
      less zero l = record { sfits = l }
      less (suc k) l = let f : SFits w (negsuc (suc k - 1)) = record { sfits = omega arith } in subst (SFits w) (sym (zero_less (suc k) (omega arith))) f

  pub minus_held : to_z w (of_z w (pos 0 -ℤ to_z w n)) ≡ pos 0 -ℤ pos n
  minus_held = to_z-of_z minus_fits ∙ minus

-- a number that is not below 0, and one that is
from_zero : (z : ℤ) → le_z (pos 0) z ≡ true → (n : ℕ) × (z ≡ pos n)
from_zero (pos n) e = (n, refl)
from_zero (negsuc n) e = let b : ◌≡◌ {A = ℕ} 0 1 = cc in let w : ⊥ = omega arith in absurd w

under_zero : (z : ℤ) → le_z (pos 0) z ≡ false → (n : ℕ) × (z ≡ negsuc n)
under_zero (pos n) e = let t = leb-zero n in let b : ◌≡◌ {A = ℕ} 0 1 = cc in let w : ⊥ = omega arith in absurd w
under_zero (negsuc n) e = (n, refl)

-- 0 less one more than a number below 0 is that number's distance from -1
next_up : (k : ℕ) → pos 0 -ℤ suc_ℤ (negsuc k) ≡ pos k
next_up zero = refl
next_up (suc k) = +ℤ_idl (pos (suc k))

up_fits : (w : Width) (k : ℕ) → k < 2 ^ hbits w → SFits w (suc_ℤ (negsuc k))
up_fits w zero h = record { sfits = h }
up_fits w (suc k) h = record { sfits = omega arith }

-- a number as code of width w holds it: at or above 0 it is its size, below 0 its distance from -1 is computed
abbrev held : Width → ℤ → ℤ
held w z = to_z w (of_z w z)

pub record Above (w : Width) (z : ℤ) : Type 0 where
  pub size : ℕ
  pub is : z ≡ pos size
  pub held_is : to_z w (of_z w z) ≡ pos size
  pub small : size < 2 ^ hbits w

pub record Below (w : Width) (z : ℤ) : Type 0 where
  pub distance : ℕ
  pub is : z ≡ negsuc distance
  pub small : distance < 2 ^ hbits w
  pub add_fits : SFits w (to_z w (of_z w z) +ℤ pos 1)
  pub sub_fits : SFits w (pos 0 -ℤ to_z w (of_z w (to_z w (of_z w z) +ℤ pos 1)))
  pub held_is : to_z w (of_z w (pos 0 -ℤ to_z w (of_z w (to_z w (of_z w z) +ℤ pos 1)))) ≡ pos distance

pub above : (w : Width) (z : ℤ) → SFits w z → le_z (pos 0) (to_z w (of_z w z)) ≡ true → Above w z
above w z f t =
    let (n, e) = from_zero z (ap (le_z (pos 0)) (sym (to_z-of_z f)) ∙ t) in
    let g : SFits w (pos n) = subst (SFits w) e f in
    record { size = n; is = e; held_is = to_z-of_z f ∙ e; small = g.sfits }

pub below : (w : Width) (z : ℤ) → SFits w z → le_z (pos 0) (to_z w (of_z w z)) ≡ false → Below w z
below w z f t =
    let (k, e) = under_zero z (ap (le_z (pos 0)) (sym (to_z-of_z f)) ∙ t) in
    let g : SFits w (negsuc k) = subst (SFits w) e f in
    let one_more : held w z +ℤ pos 1 ≡ suc_ℤ (negsuc k) = ap (λ (y : ℤ). y +ℤ pos 1) (to_z-of_z f ∙ e) ∙ +ℤ_one (negsuc k) in
    let add : SFits w (held w z +ℤ pos 1) = subst (SFits w) (sym one_more) (up_fits w k g.sfits) in
    let distance : pos 0 -ℤ held w (held w z +ℤ pos 1) ≡ pos k = ap (λ (y : ℤ). pos 0 -ℤ y) (to_z-of_z add ∙ one_more) ∙ next_up k in
    let size : SFits w (pos k) = record { sfits = g.sfits } in
    let sub : SFits w (pos 0 -ℤ held w (held w z +ℤ pos 1)) = subst (SFits w) (sym distance) size in
    record { distance = k; is = e; small = g.sfits; add_fits = add; sub_fits = sub; held_is = to_z-of_z sub ∙ distance }
