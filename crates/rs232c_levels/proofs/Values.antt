-- The values of a 40h: two bytes of a word where both stand before the checksum; behind the last value both readings give 0.
use Prim.Native.Nat.{ℕ, zero, suc, ◌+◌, ◌*◌, ◌-◌, ◌<◌, ◌≤◌}
use mathlib.Core.Path.{◌≡◌, refl, ap, ◌∙◌}
use mathlib.Core.List.{List, [], ◌∷◌}
use lib.ListN.{length, get_or, drop, length-take, length-drop}
use lib.Seq.{get_or-drop, get_or-take}
use native.Mathlib.Omega.{arith}
use Rattle.rs232c_asks.specs.Asks.{data_of, values_in, values_of}

value_in : (l : List ℕ) (j : ℕ) → 2 * j + 1 < length l → get_or (values_in l) j 0 ≡ get_or l (2 * j) 0 + 256 * get_or l (2 * j + 1) 0
value_in [] j h = absurd (omega arith)
value_in (x ∷ []) j h = absurd (omega arith)
value_in (x ∷ y ∷ l) zero h = refl
value_in (x ∷ y ∷ l) (suc j) h =
    let a : 2 * suc j ≡ suc (suc (2 * j)) = omega arith in
    let b : 2 * suc j + 1 ≡ suc (suc (2 * j + 1)) = omega arith in
    let p : get_or (x ∷ y ∷ l) (2 * suc j) 0 ≡ get_or l (2 * j) 0 = rw a in
    let q : get_or (x ∷ y ∷ l) (2 * suc j + 1) 0 ≡ get_or l (2 * j + 1) 0 = rw b in
    omega (arith, p, q, value_in l j (omega arith))

none_in : (l : List ℕ) (j : ℕ) → length l ≤ 2 * j + 1 → get_or (values_in l) j 0 ≡ 0
none_in [] j h = refl
none_in (x ∷ []) j h = refl
none_in (x ∷ y ∷ l) zero h = absurd (omega arith)
none_in (x ∷ y ∷ l) (suc j) h = none_in l j (omega arith)

-- the bytes behind the mask are the frame's from place 6 on, up to the checksum
behind_mask : (m : List ℕ) (i : ℕ) → i + 7 < length m → get_or (drop 1 (data_of m)) i 0 ≡ get_or m (6 + i) 0
behind_mask m i h =
    get_or-drop 1 (data_of m) i 0 ∙ get_or-take (length m - 6) (drop 5 m) (1 + i) 0 (omega arith) ∙ get_or-drop 5 m (1 + i) 0
    ∙ ap (λ (k : ℕ). get_or m k 0) (omega arith)

pub value_is : (m : List ℕ) (j : ℕ) → 9 + 2 * j ≤ length m → get_or (values_of m) j 0 ≡ get_or m (6 + 2 * j) 0 + 256 * get_or m (7 + 2 * j) 0
value_is m j h =
    let a : 6 + (2 * j + 1) ≡ 7 + 2 * j = omega arith in
    let p : get_or (drop 1 (data_of m)) (2 * j) 0 ≡ get_or m (6 + 2 * j) 0 = behind_mask m (2 * j) (omega arith) in
    let q : get_or (drop 1 (data_of m)) (2 * j + 1) 0 ≡ get_or m (7 + 2 * j) 0 = behind_mask m (2 * j + 1) (omega arith) ∙ ap (λ (k : ℕ). get_or m k 0) a in
    let w = value_in (drop 1 (data_of m)) j (simp (length-drop, length-take, length-drop) (omega arith)) in
    omega (arith, p, q, w)

pub no_value : (m : List ℕ) (j : ℕ) → length m < 9 + 2 * j → get_or (values_of m) j 0 ≡ 0
no_value m j h = none_in (drop 1 (data_of m)) j (simp (length-drop, length-take, length-drop) (omega arith))
