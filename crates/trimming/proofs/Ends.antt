-- The last byte decides what is taken off: by induction on the bytes before it.
use Prim.Native.Nat.{ℕ, suc, ◌≤◌}
use mathlib.Core.Path.{◌≡◌, refl, sym, ap, ◌∙◌}
use mathlib.Core.Bool.{Bool, true, false, cond}
use mathlib.Core.List.{List, [], ◌∷◌, ◌++◌}
use lib.Dec.{eqb}
use lib.ListN.{length, get_or, take}
use lib.Seq.{take-suc, take_all}
use native.Mathlib.Omega.{arith}
use Rattle.trimming.specs.Trimming.{unterminated, in_front, unspaced}

further : (y x : ℕ) (l : List ℕ) → unterminated (y ∷ (l ++ (x ∷ []))) ≡ y ∷ unterminated (l ++ (x ∷ []))
unfolding unterminated
further y x [] = refl
further y x (z ∷ l) = refl

pub unterminated_last : (l : List ℕ) (x : ℕ) → unterminated (l ++ (x ∷ [])) ≡ cond (eqb x 0x00) l (l ++ (x ∷ []))
unfolding unterminated
unterminated_last [] x = refl
unterminated_last (y ∷ l) x = further y x l ∙ ap (λ (r : List ℕ). y ∷ r) (unterminated_last l x) ∙ go (eqb x 0x00)
  where
    go : (b : Bool) → y ∷ cond b l (l ++ (x ∷ [])) ≡ cond b (y ∷ l) (y ∷ (l ++ (x ∷ [])))
    go true = refl
    go false = refl

kept_in_front : (y x : ℕ) (l : List ℕ) → in_front y (l ++ (x ∷ [])) ≡ y ∷ (l ++ (x ∷ []))
kept_in_front y x [] = refl
kept_in_front y x (z ∷ l) = refl

pub unspaced_last : (l : List ℕ) (x : ℕ) → unspaced (l ++ (x ∷ [])) ≡ cond (eqb x 0x20) (unspaced l) (l ++ (x ∷ []))
unfolding unspaced
unspaced_last [] x = refl
unspaced_last (y ∷ l) x = ap (in_front y) (unspaced_last l x) ∙ go (eqb x 0x20)
  where
    go : (b : Bool) → in_front y (cond b (unspaced l) (l ++ (x ∷ []))) ≡ cond b (in_front y (unspaced l)) (y ∷ (l ++ (x ∷ [])))
    go true = refl
    go false = kept_in_front y x l

-- ---- the same by places, as the code reads

-- the first n bytes are those before the last of them, and that one
at_last : (d : List ℕ) (n m : ℕ) → n ≡ suc m → n ≤ length d → take n d ≡ take m d ++ (get_or d m 0 ∷ [])
at_last d n m q h = ap (λ (k : ℕ). take k d) q ∙ take-suc d m 0 (omega arith)

pub unterminated_at : (d : List ℕ) (m : ℕ) → length d ≡ suc m → unterminated d ≡ cond (eqb (get_or d m 0) 0x00) (take m d) d
unterminated_at d m q =
    let e = sym (take_all (length d) d (omega arith)) ∙ at_last d (length d) m q (omega arith) in
    ap unterminated e ∙ unterminated_last (take m d) (get_or d m 0) ∙ ap (cond (eqb (get_or d m 0) 0x00) (take m d)) (sym e)

pub unspaced_at : (d : List ℕ) (n m : ℕ) → n ≡ suc m → n ≤ length d → unspaced (take n d) ≡ cond (eqb (get_or d m 0) 0x20) (unspaced (take m d)) (take n d)
unspaced_at d n m q h =
    let e = at_last d n m q h in
    ap unspaced e ∙ unspaced_last (take m d) (get_or d m 0) ∙ ap (cond (eqb (get_or d m 0) 0x20) (unspaced (take m d))) (sym e)
