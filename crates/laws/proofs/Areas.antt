-- Fields laid one behind the other are one field, and a copying loop lays what it copied: `paste` grows by a byte a turn.
use mathlib.Core.Path.{◌≡◌, refl, sym, ap, ◌∙◌}
use mathlib.Core.Bool.{Bool, true, false, cond}
use mathlib.Core.List.{List, [], ◌++◌, append_assoc, append-nil}
use Prim.Native.Nat.{ℕ, ◌+◌, ◌≤◌, ◌<◌}
use native.Mathlib.Omega.{arith}
use native.Mathlib.Nat.{zero-add, add-zero}
use native.Mathlib.Numerals.{add-one}
use lib.ListN.{length, get_or, take, drop, set, length-append, length-take, length-drop, drop_of_length-le, take-append-drop}
use lib.Seq.{paste, paste-suc, take_at, drop-append-add, drop-drop, length-take-le, take-length}
use lib.Dec.{leb}
use borrow.Author.Tests.{le-leb, lt-leb}
use Rattle.laws.specs.Bytes.{over, laid, sent}

-- two fields, one behind the other, are one field
over_next : (d vs ws e : List ℕ) (n m : ℕ) → n + length vs ≡ m → m ≤ length d → e ≡ over (over d n vs) m ws → e ≡ over d n (vs ++ ws)
over_next d vs ws e n m q h p =
    let front : length (take n d ++ vs) ≡ m = length-append (take n d) vs ∙ ap (λ (j : ℕ). j + length vs) (length-take-le n d (omega arith)) ∙ q in
    let nw : m + length ws ≡ n + length (vs ++ ws) = sym (ap (λ (j : ℕ). n + j) (length-append vs ws) ∙ omega arith) in
    p
    ∙ ap (λ (x : List ℕ). x ++ ws ++ drop (m + length ws) (over d n vs)) (take_at (take n d ++ vs) (drop (n + length vs) d) m front)
    ∙ ap (λ (x : ℕ). ((take n d ++ vs) ++ ws) ++ drop (m + length ws) ((take n d ++ vs) ++ drop x d)) q
    ∙ ap (λ (x : List ℕ). ((take n d ++ vs) ++ ws) ++ x) (rest (take n d ++ vs) d m (length ws) front ∙ ap (λ (j : ℕ). drop j d) nw)
    ∙ ap (λ (x : List ℕ). x ++ drop (n + length (vs ++ ws)) d) (append_assoc (take n d) vs ws)
  where
    rest : (P d : List ℕ) (n k : ℕ) → length P ≡ n → drop (n + k) (P ++ drop n d) ≡ drop (n + k) d
    rest P d n k l = rw (← l) (drop-append-add P (drop (length P) d) k ∙ drop-drop k (length P) d)

-- e is d with vs laid over it from place n up to place m
pub record Laid (d e : List ℕ) (n : ℕ) (vs : List ℕ) (m : ℕ) : Type 0 where
  pub is : e ≡ over d n vs
  pub end : n + length vs ≡ m

-- one more field, laid where the last one ended
pub laid_next : {d e : List ℕ} {n : ℕ} {vs : List ℕ} {m : ℕ} (f ws : List ℕ) (k m' : ℕ) → Laid d e n vs m → f ≡ over e m ws → length ws ≡ k → m + k ≡ m' → m ≤ length d → Laid d f n (vs ++ ws) m'
laid_next {d} {e} {n} {vs} {m} f ws k m' l p q r h = record {
  is = over_next d vs ws f n m l.end h (p ∙ ap (λ (x : List ℕ). over x m ws) l.is);
  end = ap (λ (j : ℕ). n + j) (length-append vs ws) ∙ omega (arith, l.end);
}

-- bytes that fit the area are laid over it, others are not
pub laid_fits : (d : List ℕ) (n : ℕ) (vs : List ℕ) → n + length vs ≤ length d → laid d n vs ≡ over d n vs
unfolding laid
laid_fits d n vs h = rw (le-leb (n + length vs) (length d) h)

pub laid_short : (d : List ℕ) (n : ℕ) (vs : List ℕ) → length d < n + length vs → laid d n vs ≡ d
unfolding laid
laid_short d n vs h = rw (lt-leb (n + length vs) (length d) h)

-- nothing laid over an area leaves it
pub laid_none : (d : List ℕ) (n : ℕ) → laid d n [] ≡ d
unfolding laid
laid_none d n =
    let e : take n d ++ [] ++ drop (n + 0) d ≡ d = rw (append-nil, add-zero) (take-append-drop n d) in
    both (leb (n + 0) (length d)) (take n d ++ [] ++ drop (n + 0) d) e
  where
    both : (b : Bool) (e : List ℕ) → e ≡ d → cond b e d ≡ d
    both true e q = q
    both false e q = refl

-- what is laid over an area leaves its length
over_length : (d : List ℕ) (n : ℕ) (vs : List ℕ) → n + length vs ≤ length d → length (over d n vs) ≡ length d
over_length d n vs h = simp (length-append, length-take, length-drop) (omega arith)

-- the first field, and one more behind the last, where there is room for them
pub laid_first : {d : List ℕ} {n : ℕ} (f ws : List ℕ) (k m : ℕ) → f ≡ laid d n ws → length ws ≡ k → n + k ≡ m → m ≤ length d → Laid d f n ws m
laid_first {d} {n} f ws k m p q r h = record { is = p ∙ laid_fits d n ws (omega arith); end = omega arith }

pub laid_more : {d e : List ℕ} {n : ℕ} {vs : List ℕ} {m : ℕ} (f ws : List ℕ) (k m' : ℕ) → Laid d e n vs m → f ≡ laid e m ws → length ws ≡ k → m + k ≡ m' → m' ≤ length d → Laid d f n (vs ++ ws) m'
laid_more {d} {e} {n} {vs} {m} f ws k m' l p q r h =
    let end = l.end in
    let size : length e ≡ length d = ap length l.is ∙ over_length d n vs (omega arith) in
    laid_next f ws k m' l (p ∙ laid_fits e m ws (omega arith)) q r (omega arith)

-- what is laid over the front is a reply, then the old rest
pub over_front : (d vs : List ℕ) → over d 0 vs ≡ sent vs d
over_front d vs = ap (λ (k : ℕ). vs ++ drop k d) (zero-add (length vs))

-- a list as long as the one it is laid over stands alone
pub over_whole : (d vs : List ℕ) → length d ≡ length vs → over d 0 vs ≡ vs
over_whole d vs e =
    let h : length d ≤ length vs = omega arith in
    over_front d vs ∙ ap (λ (r : List ℕ). vs ++ r) (drop_of_length-le d h) ∙ append-nil vs

-- one more byte copied
pub paste_more : (d : List ℕ) (at : ℕ) (s : List ℕ) (i : ℕ) (o : List ℕ) → at + i < length d → i < length s → o ≡ paste d at s i → set o (at + i) (get_or s i 0) ≡ paste d at s (i + 1)
paste_more d at s i o h l e = rw (e, add-one) (paste-suc d at s i 0 h l)

-- all copied
pub paste_whole : (d : List ℕ) (at : ℕ) (s : List ℕ) (i : ℕ) (o : List ℕ) → i ≤ length s → length s ≤ i → o ≡ paste d at s i → o ≡ over d at s
paste_whole d at s i o h l e =
    let q : i ≡ length s = omega arith in
    e ∙ rw (q, take-length)
