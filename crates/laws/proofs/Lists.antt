-- A loop that asks each element in turn: what is asked of the list from i on is asked of the element at i, then from i + 1 on.
use mathlib.Core.Path.{◌≡◌, refl, sym, ap, ◌∙◌}
use mathlib.Core.Bool.{Bool, true, false, ◌&&◌, ◌||◌, and-true}
use mathlib.Core.List.{List, [], ◌∷◌, ◌++◌}
use Prim.Native.Nat.{ℕ, zero, suc, ◌+◌, ◌-◌, ◌<◌, ◌≤◌}
use native.Mathlib.Omega.{arith}
use native.Mathlib.Nat.{add-zero}
use native.Mathlib.Numerals.{add-one}
use lib.Dec.{eqb, leb, lit<}
use lib.ListN.{length, get_or, set, take, drop, drop_of_length-le, length-drop}
use lib.Seq.{drop-cons, drop-drop, take-add, take_all, get_or-drop, get_or-take, length-take-le}
use borrow.Author.Tests.{eqb-true, eq-eqb, leb-true, le-leb}
use Rattle.laws.specs.Bytes.{Bytes, part, same}
use Rattle.laws.specs.Lists.{every, listed, within, places}
use Rattle.laws.proofs.Conditions.{and_first, and_second, and_both, false_true}

-- the list from i on is the element at i and the list from i + 1 on
pub from : {A : Type 0} (l : List A) (i : ℕ) (d : A) → i < length l → drop i l ≡ get_or l i d ∷ drop (i + 1) l
from l i d h = rw (add-one, drop-cons l i d)

-- behind the end there is nothing
pub behind : {A : Type 0} (l : List A) (i : ℕ) → length l ≤ i → drop i l ≡ []
behind l i h = drop_of_length-le l h

pub every_from : {A : Type 0} (f : A → Bool) (l : List A) (i : ℕ) (d : A) → i < length l → every f (drop i l) ≡ (f (get_or l i d) && every f (drop (i + 1) l))
every_from f l i d h = ap (every f) (from l i d h)

pub every_behind : {A : Type 0} (f : A → Bool) (l : List A) (i : ℕ) → length l ≤ i → every f (drop i l) ≡ true
every_behind f l i h = ap (every f) (behind l i h)

-- a loop that asks f of each element in turn: before i it said yes, so it is said of all what is said of those from i on
module _ {A : Type 0} (f : A → Bool) (l : List A) (i : ℕ) (e : every f l ≡ every f (drop i l)) where
  -- it says no of the element at i, and so of all
  pub every_no : (d : A) → i < length l → f (get_or l i d) ≡ false → false ≡ every f l
  every_no d h n = sym (e ∙ every_from f l i d h ∙ rw n)

  -- it says yes: the rest decides
  pub every_yes : (d : A) → i < length l → f (get_or l i d) ≡ true → every f l ≡ every f (drop (i + 1) l)
  every_yes d h y = e ∙ every_from f l i d h ∙ rw y

  -- there is no rest
  pub every_all : length l ≤ i → true ≡ every f l
  every_all h = sym (e ∙ every_behind f l i h)

-- the first n elements from i on: there the element at i is the list's own
pub first_from : {A : Type 0} (l : List A) (n i : ℕ) (d : A) → i < n → n ≤ length l → drop i (take n l) ≡ get_or l i d ∷ drop (i + 1) (take n l)
first_from l n i d h k =
    let e : i < length (take n l) = rw (length-take-le n l k) h in
    from (take n l) i d e ∙ ap (λ x. x ∷ drop (i + 1) (take n l)) (get_or-take n l i d h)

pub first_behind : {A : Type 0} (l : List A) (n i : ℕ) → n ≤ i → n ≤ length l → drop i (take n l) ≡ []
first_behind l n i h k =
    let e : length (take n l) ≤ i = rw (length-take-le n l k) h in
    behind (take n l) i e

-- what is asked of two and of three elements is asked of each
pub every_two : {A : Type 0} (f : A → Bool) (l : List A) (d : A) → length l ≡ 2 → every f l ≡ (f (get_or l 0 d) && f (get_or l 1 d))
every_two f [] d e = absurd (omega arith)
every_two f (x ∷ []) d e = absurd (omega arith)
every_two f (x ∷ y ∷ []) d e = ap (λ (b : Bool). f x && b) (and-true (f y))
every_two f (x ∷ y ∷ z ∷ l) d e = absurd (omega arith)

pub every_three : {A : Type 0} (f : A → Bool) (l : List A) (d : A) → length l ≡ 3 → every f l ≡ (f (get_or l 0 d) && (f (get_or l 1 d) && f (get_or l 2 d)))
every_three f [] d e = absurd (omega arith)
every_three f (x ∷ l) d e = ap (λ (b : Bool). f x && b) (every_two f l d (omega arith))

-- a number is among those from i on where it is the one at i, or among those from i + 1 on
pub listed_from : (l : List ℕ) (x i : ℕ) → i < length l → listed (drop i l) x ≡ (eqb x (get_or l i 0) || listed (drop (i + 1) l) x)
listed_from l x i h = ap (λ (m : List ℕ). listed m x) (from l i 0 h)

pub within_from : (l bs : List ℕ) (i : ℕ) → i < length l → i < length bs → within (drop i l) (drop i bs) ≡ (leb (get_or l i 0) (get_or bs i 0) && within (drop (i + 1) l) (drop (i + 1) bs))
within_from l bs i h k = rw (from l i 0 h, from bs i 0 k)

-- what holds of each listed number holds of a number that is listed
pub listed_every : (f : ℕ → Bool) (l : List ℕ) (x : ℕ) → every f l ≡ true → listed l x ≡ true → f x ≡ true
listed_every f [] x a e = absurd (false_true e)
listed_every f (y ∷ l) x a e = pick (eqb x y) refl e (listed_every f l x (and_second (f y) (every f l) a))
  where
    pick : (q : Bool) → eqb x y ≡ q → (q || listed l x) ≡ true → (listed l x ≡ true → f x ≡ true) → f x ≡ true
    pick true t e r = ap f (eqb-true x y t) ∙ and_first (f y) (every f l) a
    pick false t e r = r e

-- numbers within their bounds stay so where one is set to a number within
pub within_set : (l bs : List ℕ) (k v : ℕ) → within l bs ≡ true → v ≤ get_or bs k v → within (set l k v) bs ≡ true
within_set [] bs k v e h = e
within_set (x ∷ l) [] k v e h = absurd (false_true e)
within_set (x ∷ l) (b ∷ bs) zero v e h = and_both (leb v b) (within l bs) (le-leb v b h) (and_second (leb x b) (within l bs) e)
within_set (x ∷ l) (b ∷ bs) (suc k) v e h = and_both (leb x b) (within (set l k v) bs) (and_first (leb x b) (within l bs) e) (within_set l bs k v (and_second (leb x b) (within l bs) e) h)

pub same_from : (l m : List ℕ) (i : ℕ) → i < length l → i < length m → same (drop i l) (drop i m) ≡ (eqb (get_or l i 0) (get_or m i 0) && same (drop (i + 1) l) (drop (i + 1) m))
same_from l m i h k = rw (from l i 0 h, from m i 0 k)

-- a part is the byte at its place and the part behind it
pub part_from : (n m k : ℕ) (l : List ℕ) → n < length l → n + 1 ≡ m → part n (suc k) l ≡ get_or l n 0 ∷ part m k l
part_from n m k l h e = ap (take (suc k)) (from l n 0 h) ∙ ap (λ (j : ℕ). get_or l n 0 ∷ part j k l) e

-- the part from place n to the end is all that stands behind n
pub rest : {A : Type 0} (l : List A) (n : ℕ) → take (length l - n) (drop n l) ≡ drop n l
rest l n = take_all (length l - n) (drop n l) (simp length-drop (omega arith))

-- a part that lies in the list has its length
pub part_length : (n k : ℕ) (l : List ℕ) → n + k ≤ length l → length (part n k l) ≡ k
part_length n k l h = length-take-le k (drop n l) (simp length-drop (omega arith))

-- a part of bytes is bytes
pub part_bytes : (n k : ℕ) (l : List ℕ) → Bytes l → Bytes (part n k l)
part_bytes n k l b = take_bytes k (drop n l) (λ i. rw get_or-drop (b (n + i)))
  where
    take_bytes : (k : ℕ) (v : List ℕ) → Bytes v → Bytes (take k v)
    take_bytes zero v b i = lit< tt
    take_bytes (suc k) [] b i = lit< tt
    take_bytes (suc k) (x ∷ v) b zero = b 0
    take_bytes (suc k) (x ∷ v) b (suc i) = take_bytes k v (λ j. b (suc j)) i

-- two parts, one behind the other, are one part
pub part_join : {p q : List ℕ} (n j k m : ℕ) (l : List ℕ) → p ≡ part n j l → q ≡ part m k l → n + j ≡ m → p ++ q ≡ part n (j + k) l
part_join n j k m l e f h = rw (e, f, ← h) (rw (← drop-drop j n l) (sym (take-add j k (drop n l))))

-- lists of different lengths are not the same
pub other_length : (l m : List ℕ) → (length l ≡ length m → ⊥) → same l m ≡ false
other_length [] [] n = absurd (n refl)
other_length [] (y ∷ m) n = refl
other_length (x ∷ l) [] n = refl
other_length (x ∷ l) (y ∷ m) n = rw (other_length l m (λ e. n (ap suc e))) (never (eqb x y))
  where
    never : (b : Bool) → (b && false) ≡ false
    never true = refl
    never false = refl

-- what is the same is equal, and a list is the same as itself
pub same_is : (l m : List ℕ) → same l m ≡ true → l ≡ m
same_is [] [] e = refl
same_is [] (y ∷ m) e = absurd (false_true e)
same_is (x ∷ l) [] e = absurd (false_true e)
same_is (x ∷ l) (y ∷ m) e =
    ap (λ (z : ℕ). z ∷ l) (eqb-true x y (and_first (eqb x y) (same l m) e))
    ∙ ap (λ (t : List ℕ). y ∷ t) (same_is l m (and_second (eqb x y) (same l m) e))

pub same_self : (l : List ℕ) → same l l ≡ true
same_self [] = refl
same_self (x ∷ l) = rw (eq-eqb x x refl) (same_self l)

-- what stands at a place
pub places_at : {A : Type 0} (n i k : ℕ) (f : ℕ → A) (d : A) → k < n → get_or (places n i f) k d ≡ f (i + k)
places_at zero i k f d h = absurd (omega arith)
places_at (suc n) i zero f d h = ap f (sym (add-zero i))
places_at (suc n) i (suc k) f d h = places_at n (i + 1) k f d (omega arith) ∙ ap f (omega arith)

pub places_length : {A : Type 0} (n i : ℕ) (f : ℕ → A) → length (places n i f) ≡ n
places_length zero i f = refl
places_length (suc n) i f = ap suc (places_length n (i + 1) f)

-- a bound that stands where a list reads 0 past its end stands whatever it reads there
pub bound_at : (bs : List ℕ) (k v : ℕ) → v ≤ get_or bs k 0 → v ≤ get_or bs k v
bound_at [] k v h = omega arith
bound_at (b ∷ bs) zero v h = h
bound_at (b ∷ bs) (suc k) v h = bound_at bs k v h

-- numbers within their bounds: each is at most its own
pub within_at : (l bs : List ℕ) (k : ℕ) → within l bs ≡ true → get_or l k 0 ≤ get_or bs k 0
within_at [] bs k e = omega arith
within_at (x ∷ l) [] k e = absurd (false_true e)
within_at (x ∷ l) (b ∷ bs) zero e = leb-true x b (and_first (leb x b) (within l bs) e)
within_at (x ∷ l) (b ∷ bs) (suc k) e = within_at l bs k (and_second (leb x b) (within l bs) e)

-- what is asked of every element is asked of each
pub every_at : {A : Type 0} (f : A → Bool) (l : List A) (k : ℕ) (d : A) → every f l ≡ true → k < length l → f (get_or l k d) ≡ true
every_at f [] k d e h = absurd (omega arith)
every_at f (x ∷ l) zero d e h = and_first (f x) (every f l) e
every_at f (x ∷ l) (suc k) d e h = every_at f l k d (and_second (f x) (every f l) e) (omega arith)

-- and stays so where an element is set to one that passes
pub every_set : {A : Type 0} (f : A → Bool) (l : List A) (k : ℕ) (v : A) → every f l ≡ true → f v ≡ true → every f (set l k v) ≡ true
every_set f [] k v e h = e
every_set f (x ∷ l) zero v e h = and_both (f v) (every f l) h (and_second (f x) (every f l) e)
every_set f (x ∷ l) (suc k) v e h = and_both (f x) (every f (set l k v)) (and_first (f x) (every f l) e) (every_set f l k v (and_second (f x) (every f l) e) h)
