-- Whether bytes can begin a packet, as the code asks it: of two areas the shorter begins the longer, first of the bytes held, then of the piece.
use Prim.Native.Nat.{ℕ, ◌-◌, ◌≤◌, ◌<◌, min}
use native.Mathlib.Omega.{arith}
use mathlib.Core.Bool.{Bool, true, false, ◌&&◌, ◌||◌}
use mathlib.Core.Path.{◌≡◌, refl, sym, ap, ◌∙◌}
use mathlib.Core.List.{List, [], ◌∷◌, ◌++◌}
use lib.ListN.{length, get_or, take, drop}
use lib.Dec.{eqb}
use borrow.Author.Tests.{eq-eqb, ne_eqb, eqb-true, eqb-false}
use Rattle.std.specs.List.{starts_with}
use Rattle.std.proofs.lemmas.List.{drop_min}
use Rattle.laws.specs.Bytes.{begins}
use Rattle.laws.proofs.Lists.{rest}
use Rattle.sdcp_asks.specs.Asks.{front}
use Rattle.receiver.specs.Stream.{agrees, can_begin}

-- ---- as far as both go: the shorter begins the longer

eqb_sym : (x y : ℕ) → eqb x y ≡ eqb y x
eqb_sym x y = go (eqb x y) refl
  where
    go : (b : Bool) → eqb x y ≡ b → b ≡ eqb y x
    go true e = sym (eq-eqb y x (sym (eqb-true x y e)))
    go false e = sym (ne_eqb y x (λ q. eqb-false x y e (sym q)))

pub begins_agrees : (l m : List ℕ) → length m ≤ length l → begins m l ≡ agrees l m
unfolding agrees
begins_agrees [] [] h = refl
begins_agrees [] (y ∷ m) h = absurd (omega arith)
begins_agrees (x ∷ l) [] h = refl
begins_agrees (x ∷ l) (y ∷ m) h = rw (eqb_sym y x, begins_agrees l m (omega arith))

-- so they agree where the one begins with the other
pub agrees_starts : (l m : List ℕ) → agrees l m ≡ (starts_with eqb l m || starts_with eqb m l)
unfolding agrees
agrees_starts [] m = go (starts_with eqb [] m)
  where
    go : (b : Bool) → true ≡ (b || true)
    go true = refl
    go false = refl
agrees_starts (x ∷ l) [] = refl
agrees_starts (x ∷ l) (y ∷ m) = rw (eqb_sym y x, agrees_starts l m) (go (eqb x y) (starts_with eqb l m) (starts_with eqb m l))
  where
    go : (b p q : Bool) → (b && (p || q)) ≡ ((b && p) || (b && q))
    go true p q = refl
    go false p q = refl

-- ---- the bytes held, and then the piece

-- the first byte that is not 03h begins nothing
pub other_first : (l : List ℕ) → 0 < length l → (get_or l 0 0 ≡ 3 → ⊥) → eqb (get_or l 0 0) 3 ≡ can_begin l
unfolding agrees
other_first [] h n = absurd (omega arith)
other_first (x ∷ l) h n = rw (ne_eqb x 3 n)

agrees_end : (p : List ℕ) → agrees p [] ≡ true
unfolding agrees
agrees_end [] = refl
agrees_end (x ∷ p) = refl

agrees_append : (l k m : List ℕ) → agrees (l ++ k) m ≡ (agrees l m && agrees k (drop (length l) m))
unfolding agrees
agrees_append [] k m = refl
agrees_append (x ∷ l) k [] = sym (agrees_end k)
agrees_append (x ∷ l) k (y ∷ m) = go (eqb x y) (agrees_append l k m)
  where
    go : (b : Bool) → agrees (l ++ k) m ≡ (agrees l m && agrees k (drop (length l) m)) → (b && agrees (l ++ k) m) ≡ ((b && agrees l m) && agrees k (drop (length l) m))
    go true e = e
    go false e = refl

module _ (h p : List ℕ) where
  pub begins_not : can_begin h ≡ false → false ≡ can_begin (h ++ p)
  begins_not e = sym (agrees_append h p front ∙ rw e)

  pub begins_on : (i : ℕ) (r : Bool) → i ≡ min (length h) 6 → can_begin h ≡ true → r ≡ agrees p (take (6 - i) (drop i front)) → r ≡ can_begin (h ++ p)
  begins_on i r q e f =
      f ∙ ap (agrees p) (rest front i ∙ ap (λ (k : ℕ). drop k front) q ∙ drop_min (length h) front) ∙ sym (agrees_append h p front ∙ rw e)
