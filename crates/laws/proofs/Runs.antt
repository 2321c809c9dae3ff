-- What one place sees of a run is decided by what stood there and by the messages kept for it: by induction on the run, the
-- place and the replies are those of a life alone under the kept messages.
use Prim.Native.Nat.{ℕ, zero, suc, ◌<◌}
use mathlib.Core.Path.{◌≡◌, refl, sym, ap, ◌∙◌}
use mathlib.Core.Bool.{Bool, true, false, cond}
use mathlib.Core.List.{List, [], ◌∷◌, map}
use native.Mathlib.Omega.{arith}
use lib.ListN.{length, get_or, set, take}
use Rattle.laws.specs.Runs.{run_by, kept_by, heard_by, each, first_each}

-- what a step does to one place (`place`) under the addressing of the moment (`names`): it stays, or it takes its turn
pub record Alone {B C M A R : Type 0} (sound : B → Type 0) (names : B → C) (place : B → A) (step : B → M → B) (heard : B → M → R) (next : C → M → C) (kept : C → M → Bool) (turn : C → M → A → A) (says : C → M → A → R) : Type 0 where
  pub stays_sound : (b : B) (m : M) → sound b → sound (step b m)
  pub names_after : (b : B) (m : M) → sound b → names (step b m) ≡ next (names b) m
  pub names_kept : (c : C) (m : M) → kept c m ≡ false → next c m ≡ c
  pub unmeant : (b : B) (m : M) → sound b → kept (names b) m ≡ false → place (step b m) ≡ place b
  pub turns : (b : B) (m : M) → sound b → kept (names b) m ≡ true → place (step b m) ≡ turn (names b) m (place b)
  pub says_so : (b : B) (m : M) → sound b → kept (names b) m ≡ true → heard b m ≡ says (names b) m (place b)

module _ {B C M A R : Type 0} {sound : B → Type 0} {names : B → C} {place : B → A} {step : B → M → B} {heard : B → M → R} {next : C → M → C} {kept : C → M → Bool} {turn : C → M → A → A} {says : C → M → A → R} (l : Alone sound names place step heard next kept turn says) where
  -- the place by itself, and what it says
  abbrev life : C → A → List M → A
  life c a [] = a
  life c a (m ∷ ms) = life (next c m) (turn c m a) ms

  abbrev words : C → A → List M → List R
  words c a [] = []
  words c a (m ∷ ms) = says c m a ∷ words (next c m) (turn c m a) ms

  ends : (ms : List M) (b : B) → sound b → place (run_by step b ms) ≡ life (names b) (place b) (kept_by next kept (names b) ms)
  ends [] b s = refl
  ends (m ∷ ms) b s = go (kept (names b) m) refl (ends ms (step b m) (l.stays_sound b m s))
    where
      go : (k : Bool) → kept (names b) m ≡ k → place (run_by step (step b m) ms) ≡ life (names (step b m)) (place (step b m)) (kept_by next kept (names (step b m)) ms) → place (run_by step (step b m) ms) ≡ life (names b) (place b) (cond k (m ∷ kept_by next kept (next (names b) m) ms) (kept_by next kept (next (names b) m) ms))
      go true e h = rw (l.names_after b m s, l.turns b m s e) at h
      go false e h = rw (l.names_kept (names b) m e) (rw (l.names_after b m s ∙ l.names_kept (names b) m e, l.unmeant b m s e) at h)

  hears : (ms : List M) (b : B) → sound b → heard_by step (λ x m. kept (names x) m) heard b ms ≡ words (names b) (place b) (kept_by next kept (names b) ms)
  hears [] b s = refl
  hears (m ∷ ms) b s = go (kept (names b) m) refl (hears ms (step b m) (l.stays_sound b m s))
    where
      go : (k : Bool) → kept (names b) m ≡ k → heard_by step (λ x m. kept (names x) m) heard (step b m) ms ≡ words (names (step b m)) (place (step b m)) (kept_by next kept (names (step b m)) ms) → cond k (heard b m ∷ heard_by step (λ x m. kept (names x) m) heard (step b m) ms) (heard_by step (λ x m. kept (names x) m) heard (step b m) ms) ≡ words (names b) (place b) (cond k (m ∷ kept_by next kept (next (names b) m) ms) (kept_by next kept (next (names b) m) ms))
      go true e h = rw (l.says_so b m s e) (ap (λ (r : List R). says (names b) m (place b) ∷ r) (rw (l.names_after b m s, l.turns b m s e) at h))
      go false e h = rw (l.names_kept (names b) m e) (rw (l.names_after b m s ∙ l.names_kept (names b) m e, l.unmeant b m s e) at h)

  -- two runs that keep the same messages for the place, from boxes that agree on it
  pub isolated : (b b' : B) (ms ms' : List M) → sound b → sound b' → names b ≡ names b' → place b ≡ place b' → kept_by next kept (names b) ms ≡ kept_by next kept (names b') ms' → (place (run_by step b ms) ≡ place (run_by step b' ms')) × (heard_by step (λ x m. kept (names x) m) heard b ms ≡ heard_by step (λ x m. kept (names x) m) heard b' ms')
  isolated b b' ms ms' s s' n p k = (cc (ends ms b s, ends ms' b' s'), cc (hears ms b s, hears ms' b' s'))

-- ---- f at each place that is called

module _ {A : Type 0} where
  pub each_at : (called : ℕ → Bool) (f : A → A) (l : List A) (i : ℕ) (d : A) → i < length l → get_or (each called f l) i d ≡ cond (called i) (f (get_or l i d)) (get_or l i d)
  each_at called f [] i d h = absurd (omega arith)
  each_at called f (x ∷ l) zero d h = refl
  each_at called f (x ∷ l) (suc i) d h = each_at (λ (j : ℕ). called (suc j)) f l i d (omega arith)

  pub each_length : (called : ℕ → Bool) (f : A → A) (l : List A) → length (each called f l) ≡ length l
  each_length called f [] = refl
  each_length called f (x ∷ l) = ap suc (each_length (λ (j : ℕ). called (suc j)) f l)

  -- nobody is called, or what is called stays as it is
  pub each_none : (called : ℕ → Bool) (f : A → A) (l : List A) → ((i : ℕ) → called i ≡ false) → each called f l ≡ l
  each_none called f [] n = refl
  each_none called f (x ∷ l) n = rw (n 0, each_none (λ (j : ℕ). called (suc j)) f l (λ i. n (suc i)))

  pub each_same : (called : ℕ → Bool) (f : A → A) (l : List A) → ((x : A) → f x ≡ x) → each called f l ≡ l
  each_same called f [] e = refl
  each_same called f (x ∷ l) e = rw (each_same (λ (j : ℕ). called (suc j)) f l e) (ap (λ (y : A). y ∷ l) (go (called 0)))
    where
      go : (b : Bool) → cond b (f x) x ≡ x
      go true = e x
      go false = refl

  -- one place is called: one store
  pub each_one : (called : ℕ → Bool) (f : A → A) (l : List A) (i : ℕ) (d : A) → i < length l → called i ≡ true → ((j : ℕ) → (j ≡ i → ⊥) → called j ≡ false) → each called f l ≡ set l i (f (get_or l i d))
  each_one called f [] i d h y n = absurd (omega arith)
  each_one called f (x ∷ l) zero d h y n = rw (y, each_none (λ (j : ℕ). called (suc j)) f l (λ j. n (suc j) (λ e. omega arith)))
  each_one called f (x ∷ l) (suc i) d h y n = rw (n 0 (λ e. omega arith), each_one (λ (j : ℕ). called (suc j)) f l i d (omega arith) y (λ j e. n (suc j) (λ q. e (omega arith))))

  -- the first n places
  pub each_take : (called : ℕ → Bool) (f : A → A) (n : ℕ) (l : List A) → take n (each called f l) ≡ each called f (take n l)
  each_take called f zero l = refl
  each_take called f (suc n) [] = refl
  each_take called f (suc n) (x ∷ l) = ap (λ (t : List A). cond (called 0) (f x) x ∷ t) (each_take (λ (j : ℕ). called (suc j)) f n l)

  -- what f does not change is not changed
  pub each_map : {B : Type 0} (g : A → B) (called : ℕ → Bool) (f : A → A) (l : List A) → ((x : A) → g (f x) ≡ g x) → map g (each called f l) ≡ map g l
  each_map g called f [] e = refl
  each_map {B} g called f (x ∷ l) e = rw (each_map g (λ (j : ℕ). called (suc j)) f l e) (ap (λ (y : B). y ∷ map g l) (go (called 0)))
    where
      go : (b : Bool) → g (cond b (f x) x) ≡ g x
      go true = e x
      go false = refl

-- ---- f at each of the first n elements, one more at a time

module _ {A : Type 0} where
  pub first_length : (f : A → A) (n : ℕ) (l : List A) → length (first_each f n l) ≡ length l
  first_length f zero l = refl
  first_length f (suc n) [] = refl
  first_length f (suc n) (x ∷ l) = ap suc (first_length f n l)

  -- the element behind them is still as it was
  pub first_next : (f : A → A) (n : ℕ) (l : List A) (d : A) → get_or (first_each f n l) n d ≡ get_or l n d
  first_next f zero l d = refl
  first_next f (suc n) [] d = refl
  first_next f (suc n) (x ∷ l) d = first_next f n l d

  pub first_more : (f : A → A) (n : ℕ) (l : List A) (d : A) → n < length l → set (first_each f n l) n (f (get_or l n d)) ≡ first_each f (suc n) l
  first_more f n [] d h = absurd (omega arith)
  first_more f zero (x ∷ l) d h = refl
  first_more f (suc n) (x ∷ l) d h = ap (λ (t : List A). f x ∷ t) (first_more f n l d (omega arith))

  -- where f leaves it, nothing is stored
  pub first_skip : (f : A → A) (n : ℕ) (l : List A) (d : A) → n < length l → f (get_or l n d) ≡ get_or l n d → first_each f n l ≡ first_each f (suc n) l
  first_skip f n [] d h e = absurd (omega arith)
  first_skip f zero (x ∷ l) d h e = ap (λ (y : A). y ∷ l) (sym e)
  first_skip f (suc n) (x ∷ l) d h e = ap (λ (t : List A). f x ∷ t) (first_skip f n l d (omega arith) e)

-- those of the first n that are called by what they are, not by where they stand
pub first_called : {A C : Type 0} (name : A → C) (called : C → Bool) (none : C) (f : A → A) → called none ≡ false → (n : ℕ) (l : List A) → each (λ (i : ℕ). called (get_or (map name (take n l)) i none)) f l ≡ first_each (λ (x : A). cond (called (name x)) (f x) x) n l
first_called name called none f e zero l = each_none (λ (i : ℕ). called none) f l (λ i. e)
first_called name called none f e (suc n) [] = refl
first_called {A} name called none f e (suc n) (x ∷ l) = ap (λ (t : List A). cond (called (name x)) (f x) x ∷ t) (first_called name called none f e n l)
