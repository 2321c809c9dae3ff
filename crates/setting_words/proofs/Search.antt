-- The first number of which a test says yes: the library's first place in the numbers from 0 on.
use Prim.Native.Nat.{ℕ, zero, suc, ◌+◌, ◌<◌}
use mathlib.Core.Path.{◌≡◌, refl, ap, ◌∙◌}
use mathlib.Core.Bool.{Bool, true, false, cond, not}
use native.Mathlib.Omega.{arith}
use lib.Dec.{ltb}
use lib.ListN.{length}
use borrow.Author.Tests.{lt-ltb, le-ltb, ltb-true, ltb-false}
use Rattle.std.specs.Prelude.{Option, Some, None}
use Rattle.std.specs.List.{position, position_or_len, range_with_len}
use Rattle.setting_words.specs.Names.{first_of}

abbrev Test : Type 0
Test = ℕ → Bool

one_more : (p m : ℕ) → ltb (1 + p) (suc m) ≡ ltb p m
one_more p m = go (ltb p m) refl
  where
    go : (b : Bool) → ltb p m ≡ b → ltb (1 + p) (suc m) ≡ b
    go true e = let h = ltb-true p m e in lt-ltb _ _ (omega arith)
    go false e = let h = ltb-false p m e in le-ltb _ _ (omega arith)

-- the same from i on
found_from : (n i : ℕ) (f : Test) → cond (ltb (position_or_len f (range_with_len i n)) (length (range_with_len i n))) (Some (i + position_or_len f (range_with_len i n))) None ≡ first_of n i f
found_from zero i f = refl
found_from (suc n) i f = go (position_or_len f (range_with_len (i + 1) n)) (length (range_with_len (i + 1) n)) (f i) (found_from n (i + 1) f)
  where
    go : (p m : ℕ) (b : Bool) → cond (ltb p m) (Some (i + 1 + p)) None ≡ first_of n (i + 1) f
        → cond (ltb (cond (not b) (1 + p) 0) (suc m)) (Some (i + cond (not b) (1 + p) 0)) None ≡ cond b (Some i) (first_of n (i + 1) f)
    go p m true e =
        let r : i + 0 ≡ i = omega arith in
        rw (lt-ltb 0 (suc m) (omega arith)) (ap (λ (x : ℕ). Some x) r)
    go p m false e =
        let r : i + (1 + p) ≡ i + 1 + p = omega arith in
        ap (λ (b : Bool). cond b (Some (i + (1 + p))) None) (one_more p m) ∙ ap (λ (x : ℕ). cond (ltb p m) (Some x) None) r ∙ e

-- two tests that agree find the same
first_same : (n i : ℕ) (f g : Test) → ((j : ℕ) → f j ≡ g j) → first_of n i f ≡ first_of n i g
first_same zero i f g h = refl
first_same (suc n) i f g h = rw (h i, first_same n (i + 1) f g h)

pub found : (n : ℕ) (f g : Test) → ((j : ℕ) → f j ≡ g j) → position f (range_with_len 0 n) ≡ first_of n 0 g
found n f g h =
    let k = position_or_len f (range_with_len 0 n) in
    let z : k ≡ 0 + k = omega arith in
    ap (λ (x : ℕ). cond (ltb k (length (range_with_len 0 n))) (Some x) None) z ∙ found_from n 0 f ∙ first_same n 0 f g h

-- what is found lies in the range and passes the test
pub record Hit (f : Test) (n : ℕ) (k : ℕ) : Type 0 where
  pub small : k < n
  pub passes : f k ≡ true

abbrev pub Right : Test → ℕ → Option ℕ → Type 0
Right f n (Some k) = Hit f n k
Right f n None = Unit {0}

hits : (n i : ℕ) (f : Test) → Right f (i + n) (first_of n i f)
hits zero i f = tt
hits (suc n) i f = go (f i) refl (widen (first_of n (i + 1) f) (hits n (i + 1) f))
  where
    widen : (x : Option ℕ) → Right f (i + 1 + n) x → Right f (i + suc n) x
    widen (Some k) r = let s = r.small in record { small = omega arith; passes = r.passes }
    widen None r = tt

    go : (b : Bool) → f i ≡ b → Right f (i + suc n) (first_of n (i + 1) f) → Right f (i + suc n) (cond b (Some i) (first_of n (i + 1) f))
    go true e r = record { small = omega arith; passes = e }
    go false e r = r

pub first_right : (n : ℕ) (f : Test) → Right f n (first_of n 0 f)
first_right n f = go (first_of n 0 f) (hits n 0 f)
  where
    go : (x : Option ℕ) → Right f (0 + n) x → Right f n x
    go (Some k) r = let s = r.small in record { small = omega arith; passes = r.passes }
    go None r = tt
