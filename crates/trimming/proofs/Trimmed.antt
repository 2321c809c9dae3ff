-- Whatever the data, it is what is left of it, some spaces, and one 00h or none; and such an end is taken off whole.
use Prim.Native.Nat.{ℕ, zero, suc, ◌≤◌}
use mathlib.Core.Path.{◌≡◌, refl, sym, ap, subst, ◌∙◌}
use mathlib.Core.Bool.{Bool, true, false, cond, not, ◌||◌}
use mathlib.Core.List.{List, [], ◌∷◌, ◌++◌, append_assoc, append-nil}
use native.Mathlib.Omega.{arith}
use lib.Dec.{eqb}
use lib.ListN.{length, take, replicate, length-append}
use lib.Seq.{take-append_seam, append_snoc, length-take-le}
use borrow.Author.Tests.{eqb-true}
use Rattle.laws.proofs.Conditions.{false_true}
use Rattle.trimming.specs.Trimming.{unterminated, in_front, unspaced, trimmed}
use Rattle.trimming.proofs.Ends.{unterminated_last, unspaced_last}

-- d is t with spaces behind it, and behind these one 00h or none
pub data Ended (t : List ℕ) : List ℕ → Type 0 where
  bare : (n : ℕ) → Ended t (t ++ replicate n 0x20)
  terminated : (n : ℕ) → Ended t (t ++ replicate n 0x20 ++ (0x00 ∷ []))

-- the last byte is neither a space nor 00h; no byte at all is bare
unfoldable pub ends_bare : List ℕ → Bool
ends_bare [] = true
ends_bare (x ∷ []) = not (eqb x 0x20 || eqb x 0x00)
ends_bare (x ∷ y ∷ s) = ends_bare (y ∷ s)

-- ---- nothing else is taken off

-- d is t with one 00h behind it or none
data Stops (t : List ℕ) : List ℕ → Type 0 where
  stays : Stops t t
  stops : Stops t (t ++ (0x00 ∷ []))

more : (x : ℕ) {t d : List ℕ} → Stops t d → Stops (x ∷ t) (x ∷ d)
more x stays = stays
more x stops = stops

unterminated_from : (d : List ℕ) → Stops (unterminated d) d
unfolding unterminated
unterminated_from [] = stays
unterminated_from (x ∷ []) = go (eqb x 0x00) refl
  where
    go : (b : Bool) → eqb x 0x00 ≡ b → Stops (cond b [] (x ∷ [])) (x ∷ [])
    go true e = subst (λ (y : ℕ). Stops [] (y ∷ [])) (sym (eqb-true x 0x00 e)) stops
    go false e = stays
unterminated_from (x ∷ y ∷ s) = more x (unterminated_from (y ∷ s))

-- l is t with so many spaces behind it
record Spaced (t l : List ℕ) : Type 0 where
  count : ℕ
  spaces : l ≡ t ++ replicate count 0x20

unspaced_from : (l : List ℕ) → Spaced (unspaced l) l
unfolding unspaced
unspaced_from [] = record { count = 0; spaces = refl }
unspaced_from (x ∷ s) = go (unspaced s) (unspaced_from s)
  where
    test : Spaced [] s → (b : Bool) → eqb x 0x20 ≡ b → Spaced (cond b [] (x ∷ [])) (x ∷ s)
    test p true e = record { count = suc p.count; spaces = ap (λ (r : List ℕ). x ∷ r) p.spaces ∙ ap (λ (y : ℕ). y ∷ replicate p.count 0x20) (eqb-true x 0x20 e) }
    test p false e = record { count = p.count; spaces = ap (λ (r : List ℕ). x ∷ r) p.spaces }

    go : (u : List ℕ) → Spaced u s → Spaced (in_front x u) (x ∷ s)
    go [] p = test p (eqb x 0x20) refl
    go (y ∷ u) p = record { count = p.count; spaces = ap (λ (r : List ℕ). x ∷ r) p.spaces }

-- nothing else was taken off, whatever the data
pub trimmed_from : (d : List ℕ) → Ended (trimmed d) d
unfolding trimmed
trimmed_from d = go d (unterminated_from d)
  where
    u : List ℕ
    u = unterminated d

    go : (e : List ℕ) → Stops u e → Ended (unspaced u) e
    go _ stays = subst (Ended (unspaced u)) (sym (unspaced_from u).spaces) (bare (unspaced_from u).count)
    go _ stops = subst (λ (r : List ℕ). Ended (unspaced u) (r ++ (0x00 ∷ []))) (sym (unspaced_from u).spaces) (terminated (unspaced_from u).count)

-- ---- what is left is the data's front

-- d begins with the whole of t
pub record Front (t d : List ℕ) : Type 0 where
  pub fits : length t ≤ length d
  pub front : take (length t) d ≡ t

before : (t r : List ℕ) → Front t (t ++ r)
before t r = let h = length-append t r in record { fits = omega (arith, h); front = take-append_seam t r }

pub ended_front : (t d : List ℕ) → Ended t d → Front t d
ended_front t _ (bare n) = before t (replicate n 0x20)
ended_front t _ (terminated n) = subst (Front t) (sym (append_assoc t (replicate n 0x20) (0x00 ∷ []))) (before t (replicate n 0x20 ++ (0x00 ∷ [])))

-- so many bytes of the data's front are what is left
pub left_length : (d : List ℕ) (n : ℕ) → n ≡ length (trimmed d) → n ≡ length (take n d)
left_length d n e = let h = (ended_front (trimmed d) d (trimmed_from d)).fits in sym (length-take-le n d (omega (arith, h, e)))

pub left_front : (d : List ℕ) (n : ℕ) → n ≡ length (trimmed d) → take n d ≡ trimmed d
left_front d n e = ap (λ (k : ℕ). take k d) e ∙ (ended_front (trimmed d) d (trimmed_from d)).front

-- ---- such an end is taken off whole

unspaced_spaces : (n : ℕ) (t : List ℕ) → unspaced (t ++ replicate n 0x20) ≡ unspaced t
unspaced_spaces zero t = ap unspaced (append-nil t)
unspaced_spaces (suc n) t = ap unspaced (sym (append_snoc t 0x20 (replicate n 0x20))) ∙ unspaced_spaces n (t ++ (0x20 ∷ [])) ∙ unspaced_last t 0x20

-- bytes that end bare stay as they are
unspaced_bare : (t : List ℕ) → ends_bare t ≡ true → unspaced t ≡ t
unfolding ends_bare unspaced
unspaced_bare [] e = refl
unspaced_bare (x ∷ []) e = go (eqb x 0x20) e
  where
    go : (b : Bool) → not (b || eqb x 0x00) ≡ true → cond b [] (x ∷ []) ≡ x ∷ []
    go true f = absurd (false_true f)
    go false f = refl
unspaced_bare (x ∷ y ∷ s) e = ap (in_front x) (unspaced_bare (y ∷ s) e)

unterminated_bare : (t : List ℕ) → ends_bare t ≡ true → unterminated t ≡ t
unfolding ends_bare unterminated
unterminated_bare [] e = refl
unterminated_bare (x ∷ []) e = go (eqb x 0x20) (eqb x 0x00) e
  where
    go : (a b : Bool) → not (a || b) ≡ true → cond b [] (x ∷ []) ≡ x ∷ []
    go true b f = absurd (false_true f)
    go false true f = absurd (false_true f)
    go false false f = refl
unterminated_bare (x ∷ y ∷ s) e = ap (λ (r : List ℕ). x ∷ r) (unterminated_bare (y ∷ s) e)

-- a space at the end is no 00h
unterminated_spaces : (n : ℕ) (t : List ℕ) → unterminated t ≡ t → unterminated (t ++ replicate n 0x20) ≡ t ++ replicate n 0x20
unterminated_spaces zero t e = ap unterminated (append-nil t) ∙ e ∙ sym (append-nil t)
unterminated_spaces (suc n) t e = subst (λ (l : List ℕ). unterminated l ≡ l) (append_snoc t 0x20 (replicate n 0x20)) (unterminated_spaces n (t ++ (0x20 ∷ [])) (unterminated_last t 0x20))

-- such an end is taken off whole
pub trims : (t d : List ℕ) → ends_bare t ≡ true → Ended t d → trimmed d ≡ t
unfolding trimmed
trims t _ e (bare n) = ap unspaced (unterminated_spaces n t (unterminated_bare t e)) ∙ unspaced_spaces n t ∙ unspaced_bare t e
trims t _ e (terminated n) = ap unspaced (unterminated_last (t ++ replicate n 0x20) 0x00) ∙ unspaced_spaces n t ∙ unspaced_bare t e

-- what ends bare has nothing to take off
pub bare_trimmed : (t : List ℕ) → ends_bare t ≡ true → trimmed t ≡ t
bare_trimmed t e = trims t t e (subst (Ended t) (append-nil t) (bare 0))

-- what ends bare does so without its front
pub bare_behind : (p s : List ℕ) → ends_bare (p ++ s) ≡ true → ends_bare s ≡ true
unfolding ends_bare
bare_behind p [] e = refl
bare_behind [] (y ∷ s) e = e
bare_behind (x ∷ []) (y ∷ s) e = e
bare_behind (x ∷ z ∷ p) (y ∷ s) e = bare_behind (z ∷ p) (y ∷ s) e
