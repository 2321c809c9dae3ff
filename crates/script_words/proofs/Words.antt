-- The words of a line are the parts between its spaces, as `split` gives them.
use Prim.Native.Nat.{◌+◌, ◌<◌, ◌≤◌, suc, ℕ}
use mathlib.Core.Bool.{Bool, cond, false, true}
use mathlib.Core.List.{List, [], ◌∷◌}
use mathlib.Core.Path.{◌∙◌, ◌≡◌, ap, refl, sym}
use native.Mathlib.Omega.{arith}
use lib.Dec.{eqb}
use lib.ListN.{drop, get_or, length, take}
use borrow.Author.Tests.{eq-eqb, eqb-true, ne_eqb}
use denote.Ref.{Bor}
use Rattle.std.proofs.lemmas.Option.{unwrap_or-slice_get}
use Rattle.std.specs.List.{filter, onto_first, slice_get, slice_split}
use Rattle.std.specs.Option.{option_map, unwrap_or}
use Rattle.std.specs.Prelude.{Option, Some, None}
use Rattle.laws.proofs.Lists.{behind, from}
use Rattle.script_words.specs.Words.{before, to_first, words_in}

-- ---- what stands before the first c

module _ (c : ℕ) where
  pub before_fits : (s : List ℕ) → length (before c s) ≤ length s
  unfolding before
  before_fits [] = omega arith
  before_fits (x ∷ s) = go (eqb x c) (before_fits s)
    where
      go : (b : Bool) → length (before c s) ≤ length s → length (cond b [] (x ∷ before c s)) ≤ length (x ∷ s)
      go true h = omega arith
      go false h = omega arith

  pub before_take : (s : List ℕ) → take (length (before c s)) s ≡ before c s
  unfolding before
  before_take [] = refl
  before_take (x ∷ s) = go (eqb x c) (before_take s)
    where
      go : (b : Bool) → take (length (before c s)) s ≡ before c s → take (length (cond b [] (x ∷ before c s))) (x ∷ s) ≡ cond b [] (x ∷ before c s)
      go true h = refl
      go false h = ap (λ (t : List ℕ). x ∷ t) h

  -- the first c stands behind it
  pub before_stop : (s : List ℕ) → length (before c s) < length s → get_or s (length (before c s)) 0 ≡ c
  unfolding before
  before_stop [] h = absurd (omega arith)
  before_stop (x ∷ s) h = go (eqb x c) refl (before_stop s) h
    where
      go : (b : Bool) → eqb x c ≡ b → (length (before c s) < length s → get_or s (length (before c s)) 0 ≡ c) → length (cond b [] (x ∷ before c s)) < length (x ∷ s) → get_or (x ∷ s) (length (cond b [] (x ∷ before c s))) 0 ≡ c
      go true e r h = eqb-true x c e
      go false e r h = r (omega arith)

  pub before_behind : (s : List ℕ) (i : ℕ) → length s ≤ i → before c (drop i s) ≡ []
  unfolding before
  before_behind s i h = rw (behind s i h)

  pub before_none : length (before c []) ≡ 0
  unfolding before
  before_none = refl

  pub before_hit : (x : ℕ) (s : List ℕ) → x ≡ c → length (before c (x ∷ s)) ≡ 0
  unfolding before
  before_hit x s e = rw (eq-eqb x c e)

  pub before_miss : (x : ℕ) (s : List ℕ) → (x ≡ c → ⊥) → length (before c (x ∷ s)) ≡ length (before c s) + 1
  unfolding before
  before_miss x s e = rw (ne_eqb x c e) (omega arith)

-- ---- words

to_first_is : (x : ℕ) (ws : List (List ℕ)) → to_first x ws ≡ onto_first x ws
to_first_is x [] = refl
to_first_is x (w ∷ ws) = refl

pub words_split : (s : List ℕ) → slice_split (λ (b : ℕ). eqb b 0x20) s ≡ words_in s
unfolding words_in
words_split [] = refl
words_split (x ∷ s) = go (eqb x 0x20) (words_split s)
  where
    go : (b : Bool) → slice_split (λ (b : ℕ). eqb b 0x20) s ≡ words_in s → cond b ([] ∷ slice_split (λ (b : ℕ). eqb b 0x20) s) (onto_first x (slice_split (λ (b : ℕ). eqb b 0x20) s)) ≡ cond b ([] ∷ words_in s) (to_first x (words_in s))
    go true e = rw e
    go false e = rw e (sym (to_first_is x (words_in s)))

-- a word more than there are spaces
joined : (x : ℕ) (ws : List (List ℕ)) (n : ℕ) → suc n ≡ length ws → suc n ≡ length (to_first x ws)
joined x [] n e = absurd (omega arith)
joined x (w ∷ ws) n e = e

pub words_count : (s : List ℕ) → suc (length (filter (λ (b : ℕ). eqb b 0x20) s)) ≡ length (words_in s)
unfolding words_in
words_count [] = refl
words_count (x ∷ s) = go (eqb x 0x20) (words_count s)
  where
    go : (b : Bool) → suc (length (filter (λ (b : ℕ). eqb b 0x20) s)) ≡ length (words_in s) → suc (length (cond b (x ∷ filter (λ (b : ℕ). eqb b 0x20) s) (filter (λ (b : ℕ). eqb b 0x20) s))) ≡ length (cond b ([] ∷ words_in s) (to_first x (words_in s)))
    go true e = ap suc e
    go false e = joined x (words_in s) _ e

-- the spaces of a line, counted place by place
abbrev pub spaces : List ℕ → ℕ
spaces s = length (filter (λ (b : ℕ). eqb b 0x20) s)

pub spaces_here : (s : List ℕ) (i : ℕ) → i < length s → get_or s i 0 ≡ 0x20 → spaces (drop i s) ≡ suc (spaces (drop (i + 1) s))
spaces_here s i h e = ap spaces (from s i 0 h) ∙ rw e

pub spaces_other : (s : List ℕ) (i : ℕ) → i < length s → (get_or s i 0 ≡ 0x20 → ⊥) → spaces (drop i s) ≡ spaces (drop (i + 1) s)
spaces_other s i h n = ap spaces (from s i 0 h) ∙ rw (ne_eqb (get_or s i 0) 0x20 n)

-- the word that was picked, or none
pub word_picked : (r : Option (Bor (List ℕ))) (none : Bor (List ℕ)) (s : List ℕ) (k : ℕ) → option_map (λ (w : Bor (List ℕ)). w.now) r ≡ slice_get (slice_split (λ (b : ℕ). eqb b 0x20) s) k → none.now ≡ [] → (unwrap_or r none).now ≡ get_or (words_in s) k []
word_picked r none s k e n = seen r ∙ ap (λ (o : Option (List ℕ)). unwrap_or o []) e ∙ unwrap_or-slice_get (slice_split (λ (b : ℕ). eqb b 0x20) s) k [] ∙ ap (λ (ws : List (List ℕ)). get_or ws k []) (words_split s)
  where
    seen : (r : Option (Bor (List ℕ))) → (unwrap_or r none).now ≡ unwrap_or (option_map (λ (w : Bor (List ℕ)). w.now) r) []
    seen (Some w) = refl
    seen None = n
