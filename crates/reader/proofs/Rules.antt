-- The two rules as the code goes: noise is passed over at once, and so is a packet that is whole.
use Prim.Native.Nat.{ℕ, zero, suc, ◌+◌, ◌-◌, ◌≤◌, ◌<◌}
use native.Mathlib.Omega.{arith}
use native.Mathlib.Nat.{add-zero}
use mathlib.Core.Bool.{Bool, true, false, cond}
use mathlib.Core.Path.{◌≡◌, refl, sym, ap, ◌∙◌}
use mathlib.Core.List.{List, [], ◌∷◌}
use lib.ListN.{length, take, drop, length-drop, drop_of_length-le}
use borrow.Author.Tests.{lt-leb, lt-ltb, le-ltb, ne_eqb}
use Rattle.laws.proofs.Lists.{rest}
use Rattle.receiver.specs.Stream.{can_begin, noise, whole}
use Rattle.receiver.proofs.Stream.{sought_begins, size_min, whole_is}
use Rattle.reader.specs.declared.Listing.{Listing}
use Rattle.reader.specs.Plain.{noted as noted_of, ends_at, stops_at, between, inside}

-- ---- byte by byte

pub ended : (at : ℕ) (l : Listing) → between [] at l ≡ ends_at l at
unfolding between
ended at l = refl

-- all that is to come of a packet
through : (xs : List ℕ) (k at : ℕ) (l : Listing) → 1 ≤ k → k ≤ length xs → inside xs k at l ≡ between (drop k xs) (at + k) l
unfolding inside
through [] k at l h g = absurd (omega arith)
through (x ∷ xs) zero at l h g = absurd (omega arith)
through (x ∷ xs) (suc zero) at l h g = refl
through (x ∷ xs) (suc (suc k)) at l h g =
    let a : 1 < suc (suc k) = omega arith in
    let i : at + 1 + suc k ≡ at + suc (suc k) = omega arith in
    let j : suc (suc k) - 1 ≡ suc k = omega arith in
    rw (lt-leb (suc (suc k)) 1 a, j) (through xs (suc k) (at + 1) l (omega arith) (omega arith) ∙ ap (λ (z : ℕ). between (drop (suc k) xs) z l) i)

module _ (x : ℕ) (xs : List ℕ) (at : ℕ) (l : Listing) where
  pub passed : can_begin (x ∷ xs) ≡ false → between (x ∷ xs) at l ≡ between xs (at + 1) l
  unfolding between
  passed e = rw e

  pub tailed : can_begin (x ∷ xs) ≡ true → whole (x ∷ xs) ≡ 0 → between (x ∷ xs) at l ≡ ends_at l at
  unfolding between
  tailed e w = rw (e, w)

  pub stopped : (n : ℕ) → can_begin (x ∷ xs) ≡ true → whole (x ∷ xs) ≡ suc n → 64 ≤ l.count → between (x ∷ xs) at l ≡ stops_at l at
  unfolding between
  stopped n e w h = rw (e, w, le-ltb _ _ h, ne_eqb (suc n) 0 (λ z. omega arith))

  pub noted : (n : ℕ) → can_begin (x ∷ xs) ≡ true → whole (x ∷ xs) ≡ suc n → l.count < 64
      → between (x ∷ xs) at l ≡ between (drop (suc n) (x ∷ xs)) (at + suc n) (noted_of l at (suc n))
  unfolding between
  noted n e w h =
      let v = whole_is (x ∷ xs) n w in
      let a : suc n - 1 ≡ n = omega arith in
      let i : at + 1 + n ≡ at + suc n = omega arith in
      let m : 1 ≤ n = omega (arith, size_min (x ∷ xs), v.sized) in
      let f : n ≤ length xs = omega (arith, v.there) in
      rw (e, w, lt-ltb _ _ h, ne_eqb (suc n) 0 (λ z. omega arith), a)
      (through xs n (at + 1) (noted_of l at (suc n)) m f ∙ ap (λ (z : ℕ). between (drop n xs) z (noted_of l at (suc n))) i)

-- ---- as the code goes: by parts of the buffer

pub rest_long : (l : List ℕ) (k : ℕ) → length (take (length l - k) (drop k l)) ≡ length l - k
rest_long l k = rw rest (length-drop k l)

to_noise : (at : ℕ) (a : Listing) (l : List ℕ) → between l at a ≡ between (drop (noise l) l) (at + noise l) a
unfolding noise
to_noise at a [] = rw add-zero
to_noise at a (x ∷ l) = by_test (to_noise (at + 1) a l) (can_begin (x ∷ l)) refl
  where
    by_test : between l (at + 1) a ≡ between (drop (noise l) l) (at + 1 + noise l) a → (b : Bool) → can_begin (x ∷ l) ≡ b
        → between (x ∷ l) at a ≡ between (drop (cond b 0 (suc (noise l))) (x ∷ l)) (at + cond b 0 (suc (noise l))) a
    by_test ih true e = rw add-zero
    by_test ih false e =
        let i : at + 1 + noise l ≡ at + suc (noise l) = omega arith in
        passed x l at a e ∙ ih ∙ ap (λ (k : ℕ). between (drop (noise l) l) k a) i

from_noise : (at : ℕ) (a : Listing) (l : List ℕ) (j : ℕ) → j ≡ noise l → between l at a ≡ between (drop j l) (at + j) a
from_noise at a l j e = rw e (to_noise at a l)

pub past_noise : (at : ℕ) (a f : Listing) (l : List ℕ) (j : ℕ) → j ≡ noise l → f ≡ between (take (length l - j) (drop j l)) (at + j) a → f ≡ between l at a
past_noise at a f l j e g = (rw rest at g) ∙ sym (from_noise at a l j e)

pub first_is : (l : List ℕ) (j : ℕ) → j ≡ noise l → can_begin (take (length l - j) (drop j l)) ≡ true
first_is l j e = rw (rest, e) (sought_begins l)

pub none_left : (at : ℕ) (a : Listing) (l : List ℕ) (j : ℕ) → j ≡ noise l → length l ≤ j → between l at a ≡ ends_at a (at + j)
none_left at a l j e h = from_noise at a l j e ∙ ap (λ (x : List ℕ). between x (at + j) a) (drop_of_length-le l h) ∙ ended (at + j) a

-- where a packet begins
module _ (at : ℕ) (a : Listing) (l : List ℕ) (h : 0 < length l) (e : can_begin l ≡ true) where
  pub tail_at : whole l ≡ 0 → between l at a ≡ ends_at a at
  tail_at = go l h e
    where
      go : (l : List ℕ) → 0 < length l → can_begin l ≡ true → whole l ≡ 0 → between l at a ≡ ends_at a at
      go [] h e w = absurd (omega arith)
      go (x ∷ l) h e w = tailed x l at a e w

  -- and k bytes of it are whole
  pub stop_at : (k : ℕ) → whole l ≡ k → 0 < k → 64 ≤ a.count → between l at a ≡ stops_at a at
  stop_at k w z f = go l k h e w z
    where
      go : (l : List ℕ) (k : ℕ) → 0 < length l → can_begin l ≡ true → whole l ≡ k → 0 < k → between l at a ≡ stops_at a at
      go [] k h e w z = absurd (omega arith)
      go (x ∷ l) zero h e w z = absurd (omega arith)
      go (x ∷ l) (suc k) h e w z = stopped x l at a k e w f

  pub note_at : (k : ℕ) (f : Listing) → whole l ≡ k → 0 < k → a.count < 64 → f ≡ between (take (length l - k) (drop k l)) (at + k) (noted_of a at k) → f ≡ between l at a
  note_at k f w z r g = (rw rest at g) ∙ sym (go l k h e w z)
    where
      go : (l : List ℕ) (k : ℕ) → 0 < length l → can_begin l ≡ true → whole l ≡ k → 0 < k → between l at a ≡ between (drop k l) (at + k) (noted_of a at k)
      go [] k h e w z = absurd (omega arith)
      go (x ∷ l) zero h e w z = absurd (omega arith)
      go (x ∷ l) (suc k) h e w z = noted x l at a k e w r
