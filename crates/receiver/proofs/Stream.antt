-- Where a packet stands in a stream: bytes that come behind change neither what is noise before a whole packet nor how long the packet is.
use Prim.Native.Nat.{ℕ, zero, suc, ◌+◌, ◌≤◌, ◌<◌}
use native.Mathlib.Omega.{arith}
use mathlib.Core.Bool.{Bool, true, false, cond, ◌&&◌}
use mathlib.Core.Path.{◌≡◌, refl, sym, ap, ◌∙◌}
use mathlib.Core.List.{List, [], ◌∷◌, ◌++◌}
use lib.ListN.{length, drop, length-append, get_or-append}
use lib.Dec.{eqb, ltb}
use borrow.Author.Tests.{le-ltb, ltb-true, ltb-false}
use Rattle.std.specs.Prelude.{Option}
use Rattle.std.specs.Option.{unwrap_or}
use Rattle.laws.proofs.Conditions.{false_true}
use Rattle.sdcp_asks.specs.Asks.{front, data_length_of}
use Rattle.receiver.specs.Stream.{agrees, can_begin, noise, sought, size, size_of, whole, counted}

-- ---- as far as both go

-- what differs still differs with more behind it
agrees_not : (l k m : List ℕ) → agrees l m ≡ false → agrees (l ++ k) m ≡ false
unfolding agrees
agrees_not [] k m e = absurd (false_true (sym e))
agrees_not (x ∷ l) k [] e = e
agrees_not (x ∷ l) k (y ∷ m) e = go (eqb x y) (agrees_not l k m) e
  where
    go : (b : Bool) → (agrees l m ≡ false → agrees (l ++ k) m ≡ false) → (b && agrees l m) ≡ false → (b && agrees (l ++ k) m) ≡ false
    go true ih e = ih e
    go false ih e = refl

-- where the one is all there, what stands behind the other is not looked at
pub agrees_long : (l k m : List ℕ) → length m ≤ length l → agrees (l ++ k) m ≡ agrees l m
unfolding agrees
agrees_long [] [] m h = refl
agrees_long [] (x ∷ k) [] h = refl
agrees_long [] (x ∷ k) (y ∷ m) h = absurd (omega arith)
agrees_long (x ∷ l) k [] h = refl
agrees_long (x ∷ l) k (y ∷ m) h = ap (λ (b : Bool). eqb x y && b) (agrees_long l k m (omega arith))

-- ---- the noise

-- each byte that is dropped could begin nothing, and what is left can
pub noise_dropped : (l : List ℕ) (i : ℕ) → i < noise l → can_begin (drop i l) ≡ false
unfolding noise
noise_dropped [] i h = absurd (omega arith)
noise_dropped (x ∷ l) i h = go (can_begin (x ∷ l)) refl i h (noise_dropped l)
  where
    go : (b : Bool) → can_begin (x ∷ l) ≡ b → (i : ℕ) → i < cond b 0 (suc (noise l)) → ((k : ℕ) → k < noise l → can_begin (drop k l) ≡ false) → can_begin (drop i (x ∷ l)) ≡ false
    go true e i h ih = absurd (omega arith)
    go false e zero h ih = e
    go false e (suc i) h ih = ih i (omega arith)

pub sought_begins : (l : List ℕ) → can_begin (sought l) ≡ true
unfolding noise agrees
sought_begins [] = refl
sought_begins (x ∷ l) = go (can_begin (x ∷ l)) refl (sought_begins l)
  where
    go : (b : Bool) → can_begin (x ∷ l) ≡ b → can_begin (sought l) ≡ true → can_begin (drop (cond b 0 (suc (noise l))) (x ∷ l)) ≡ true
    go true e ih = e
    go false e ih = ih

pub noise_none : (l : List ℕ) → can_begin l ≡ true → noise l ≡ 0
unfolding noise
noise_none [] e = refl
noise_none (x ∷ l) e = rw e

pub noise_le : (l : List ℕ) → noise l ≤ length l
unfolding noise
noise_le [] = omega arith
noise_le (x ∷ l) = go (can_begin (x ∷ l)) (noise_le l)
  where
    go : (b : Bool) → noise l ≤ length l → cond b 0 (suc (noise l)) ≤ suc (length l)
    go true h = omega arith
    go false h = omega arith

-- noise may be dropped before the rest has come
pub sought_more : (l m : List ℕ) → sought (l ++ m) ≡ sought (sought l ++ m)
unfolding noise
sought_more [] m = refl
sought_more (x ∷ l) m = go (can_begin (x ∷ l)) refl (sought_more l m)
  where
    go : (b : Bool) → can_begin (x ∷ l) ≡ b → sought (l ++ m) ≡ sought (sought l ++ m) → sought (x ∷ l ++ m) ≡ sought (drop (cond b 0 (suc (noise l))) (x ∷ l) ++ m)
    go true e ih = refl
    go false e ih = rw (agrees_not (x ∷ l) m front e) ih

-- ---- what is whole

pub size_min : (s : List ℕ) → 13 ≤ size s
unfolding size_of
size_min s = go (ltb 499 (data_length_of s))
  where
    go : (b : Bool) → 13 ≤ cond b 13 (13 + data_length_of s)
    go true = omega arith
    go false = omega arith

pub size_max : (s : List ℕ) → size s ≤ 512
unfolding size_of
size_max s = go (ltb 499 (data_length_of s)) refl
  where
    go : (b : Bool) → ltb 499 (data_length_of s) ≡ b → cond b 13 (13 + data_length_of s) ≤ 512
    go true e = omega arith
    go false e = omega (arith, ltb-false 499 (data_length_of s) e)

-- the header is there, it says this length, and so much is there
pub record Whole (s : List ℕ) (n : ℕ) : Type 0 where
  pub header : 13 ≤ length s
  pub sized : size s ≡ n
  pub there : n ≤ length s

pub whole_is : (s : List ℕ) (n : ℕ) → whole s ≡ suc n → Whole s (suc n)
unfolding whole
whole_is s n e = go (ltb (length s) 13) refl (ltb (length s) (size s)) refl e
  where
    go : (b : Bool) → ltb (length s) 13 ≡ b → (d : Bool) → ltb (length s) (size s) ≡ d → cond b 0 (cond d 0 (size s)) ≡ suc n → Whole s (suc n)
    go true q d k e = absurd (omega arith)
    go false q true k e = absurd (omega arith)
    go false q false k e = record { header = ltb-false _ _ q; sized = e; there = omega (arith, ltb-false (length s) (size s) k) }

is_whole : (s : List ℕ) (n : ℕ) → Whole s n → whole s ≡ n
unfolding whole
is_whole s n w = rw (le-ltb _ _ w.header, w.sized, le-ltb _ _ w.there)

pub size_more : (s m : List ℕ) → 13 ≤ length s → size (s ++ m) ≡ size s
size_more s m h =
    let a : 11 < length s = omega arith in
    let b : 12 < length s = omega arith in
    rw (get_or-append s m 0 11 a, get_or-append s m 0 12 b)

pub whole_more : (s m : List ℕ) (n : ℕ) → whole s ≡ suc n → whole (s ++ m) ≡ suc n
whole_more s m n e =
    let w = whole_is s n e in
    let k = length-append s m in
    is_whole (s ++ m) (suc n) (record { header = omega (arith, k, w.header); sized = size_more s m w.header ∙ w.sized; there = omega (arith, k, w.there) })

-- what is not whole with 13 bytes there is a packet whose end is not there yet
pub whole_waits : (s : List ℕ) → whole s ≡ 0 → 13 ≤ length s → (data_length_of s ≤ 499) × (length s < 13 + data_length_of s)
unfolding whole size_of
whole_waits s e h = go (ltb 499 (data_length_of s)) refl (ltb (length s) (13 + data_length_of s)) refl (rw (le-ltb (length s) 13 h) at e)
  where
    go : (b : Bool) → ltb 499 (data_length_of s) ≡ b → (d : Bool) → ltb (length s) (13 + data_length_of s) ≡ d
        → cond (ltb (length s) (cond b 13 (13 + data_length_of s))) 0 (cond b 13 (13 + data_length_of s)) ≡ 0 → (data_length_of s ≤ 499) × (length s < 13 + data_length_of s)
    go true q d k e = absurd (let z : ◌≡◌ {A = ℕ} 13 0 = rw (le-ltb (length s) 13 h) at e in omega arith)
    go false q true k e = (ltb-false 499 (data_length_of s) q, ltb-true (length s) (13 + data_length_of s) k)
    go false q false k e = absurd (let z : 13 + data_length_of s ≡ 0 = rw k at e in omega arith)

-- so it is short
pub whole_not : (s : List ℕ) → whole s ≡ 0 → length s < 512
whole_not s e = go (ltb (length s) 13) refl
  where
    go : (b : Bool) → ltb (length s) 13 ≡ b → length s < 512
    go true q = omega (arith, ltb-true (length s) 13 q)
    go false q = let w = whole_waits s e (ltb-false (length s) 13 q) in omega (arith, w.0, w.1)

-- before a whole packet the noise is known
pub sought_whole : (l m : List ℕ) (n : ℕ) → whole (sought l) ≡ suc n → sought (l ++ m) ≡ sought l ++ m
sought_whole l m n e =
    let w = (whole_is (sought l) n e).header in
    let a : length front ≤ length (sought l) = omega arith in
    let q : noise (sought l ++ m) ≡ 0 = noise_none (sought l ++ m) (agrees_long (sought l) m front a ∙ sought_begins l) in
    sought_more l m ∙ ap (λ (j : ℕ). drop j (sought l ++ m)) q

-- ---- a length, or none

pub counted_one : (m n : ℕ) → counted m ≡ counted n → m ≡ n
counted_one zero zero e = refl
counted_one zero (suc n) e = absurd cc
counted_one (suc m) zero e = absurd cc
counted_one (suc m) (suc n) e = cc

-- 0 where there is none is the same length
pub counted_back : (o : Option ℕ) (n : ℕ) → o ≡ counted n → counted (unwrap_or o 0) ≡ counted n
counted_back o zero e = rw e
counted_back o (suc n) e = rw e
