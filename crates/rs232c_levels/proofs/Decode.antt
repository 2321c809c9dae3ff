-- What a mask says of place k: its bit decides, and the ones below it say which value is meant.
use mathlib.Core.Path.{◌≡◌, refl, sym, ap, ◌∙◌}
use mathlib.Core.Bool.{Bool, true, false, cond}
use mathlib.Core.List.{List, [], ◌∷◌}
use Prim.Native.Nat.{ℕ, zero, suc, ◌+◌, ◌/◌, ◌%◌, ◌^◌, ◌<◌}
use native.Mathlib.Omega.{arith}
use native.Mathlib.Nat.{div-one, mod-one}
use native.Mathlib.Numerals.{add-one, one-add}
use lib.Count.{ones, ones_in, ones_step}
use lib.Dec.{eqb}
use lib.ListN.{length, get_or, drop}
use lib.Pow.{field, mod-mod-pow, shr-shr}
use lib.Seq.{get_or-drop}
use borrow.Author.Tests.{eqb-true, eqb-false}
use Rattle.std.specs.Prelude.{Some, None}
use Rattle.std.proofs.lemmas.List.{ext_get_or}
use Rattle.rs232c_levels.specs.Levels.{Say, decode, put, puts}
use Rattle.rs232c_levels.specs.Places.{said}

none : ones 0 ≡ 0
unfolding ones ones_in
none = refl

-- the ones below place k + 1 are the lowest bit and those of the rest below place k
ones_below : (k mask : ℕ) → ones (mask % 2 ^ suc k) ≡ mask % 2 + ones (mask / 2 % 2 ^ k)
ones_below k mask = rw (← add-one k) (ones_step (mask % 2 ^ (k + 1)) ∙ rw (mod-mod-pow mask k 1, field mask k 1))

first : (b : Bool) (v : ℕ) (xs ys : List Say) → get_or (cond b (Some v ∷ xs) (None ∷ ys)) 0 None ≡ cond b (Some v) None
first true v xs ys = refl
first false v xs ys = refl

later : (b : Bool) (v : ℕ) (xs ys : List Say) (k : ℕ) → get_or (cond b (Some v ∷ xs) (None ∷ ys)) (suc k) None ≡ cond b (get_or xs k None) (get_or ys k None)
later true v xs ys k = refl
later false v xs ys k = refl

pub decode_at : (n k mask : ℕ) (vs : List ℕ) → k < n → get_or (decode n mask vs) k None ≡ said (mask / 2 ^ k) (get_or vs (ones (mask % 2 ^ k)) 0)
unfolding decode
decode_at zero k mask vs h = absurd (omega arith)
decode_at (suc n) zero mask vs h =
    first (eqb (mask % 2) 1) (get_or vs 0 0) (decode n (mask / 2) (drop 1 vs)) (decode n (mask / 2) vs)
    ∙ sym (rw (div-one mask, mod-one mask, none))
decode_at (suc n) (suc k) mask vs h =
    later (eqb (mask % 2) 1) (get_or vs 0 0) (decode n (mask / 2) (drop 1 vs)) (decode n (mask / 2) vs) k
    ∙ pick (eqb (mask % 2) 1) refl (decode_at n k (mask / 2) (drop 1 vs) (omega arith)) (decode_at n k (mask / 2) vs (omega arith))
  where
    up : mask / 2 / 2 ^ k ≡ mask / 2 ^ suc k
    up = shr-shr mask 1 k ∙ ap (λ (j : ℕ). mask / 2 ^ j) (one-add k)

    pick : (b : Bool) → eqb (mask % 2) 1 ≡ b
        → get_or (decode n (mask / 2) (drop 1 vs)) k None ≡ said (mask / 2 / 2 ^ k) (get_or (drop 1 vs) (ones (mask / 2 % 2 ^ k)) 0)
        → get_or (decode n (mask / 2) vs) k None ≡ said (mask / 2 / 2 ^ k) (get_or vs (ones (mask / 2 % 2 ^ k)) 0)
        → cond b (get_or (decode n (mask / 2) (drop 1 vs)) k None) (get_or (decode n (mask / 2) vs) k None) ≡ said (mask / 2 ^ suc k) (get_or vs (ones (mask % 2 ^ suc k)) 0)
    pick true e p q =
        let o : mask % 2 ≡ 1 = eqb-true (mask % 2) 1 e in
        p ∙ rw (up, get_or-drop 1 vs (ones (mask / 2 % 2 ^ k)) 0, ones_below k mask, o)
    pick false e p q =
        let o : mask % 2 ≡ 1 → ⊥ = eqb-false (mask % 2) 1 e in
        let z : mask % 2 + ones (mask / 2 % 2 ^ k) ≡ ones (mask / 2 % 2 ^ k) = omega arith in
        q ∙ rw (up, ones_below k mask, z)

pub puts_length : {A : Type 0} (f : ℕ → A) (ss : List Say) (l : List A) → length (puts f ss l) ≡ length l
puts_length f ss [] = refl
puts_length f [] (x ∷ l) = refl
puts_length f (s ∷ ss) (x ∷ l) = ap suc (puts_length f ss l)

pub puts_at : {A : Type 0} (f : ℕ → A) (ss : List Say) (l : List A) (k : ℕ) (d : A) → k < length l → get_or (puts f ss l) k d ≡ put f (get_or ss k None) (get_or l k d)
puts_at f ss [] k d h = absurd (omega arith)
puts_at f [] (x ∷ l) k d h = refl
puts_at f (s ∷ ss) (x ∷ l) zero d h = refl
puts_at f (s ∷ ss) (x ∷ l) (suc k) d h = puts_at f ss l k d (omega arith)

-- three elements, each as it is said of its place
pub three_put : {A : Type 0} (f : ℕ → A) (ss : List Say) (l r : List A) (d : A) → length l ≡ 3 → length r ≡ 3
    → get_or r 0 d ≡ put f (get_or ss 0 None) (get_or l 0 d) → get_or r 1 d ≡ put f (get_or ss 1 None) (get_or l 1 d)
    → get_or r 2 d ≡ put f (get_or ss 2 None) (get_or l 2 d) → r ≡ puts f ss l
three_put f ss l r d m n p q s = ext_get_or d r (puts f ss l) (n ∙ sym (puts_length f ss l ∙ m)) go
  where
    put_at : (k : ℕ) → k < 3 → put f (get_or ss k None) (get_or l k d) ≡ get_or (puts f ss l) k d
    put_at k h = sym (puts_at f ss l k d (omega arith))

    go : (k : ℕ) → k < length r → get_or r k d ≡ get_or (puts f ss l) k d
    go zero h = p ∙ put_at 0 (omega arith)
    go (suc zero) h = q ∙ put_at 1 (omega arith)
    go (suc (suc zero)) h = s ∙ put_at 2 (omega arith)
    go (suc (suc (suc k))) h = absurd (omega arith)
