-- Runs: a box through a list of messages, those of them that are kept for one place, and what was heard for these.
use Rattle.std.specs.Prelude.{ℕ, zero, suc, Bool, cond, List, [], ◌∷◌}

-- the box after the messages, one after the other
abbrev pub run_by : {B M : Type 0} → (B → M → B) → B → List M → B
run_by step b [] = b
run_by step b (m ∷ ms) = run_by step (step b m) ms

-- the messages that are kept, as addressing stands when each comes
abbrev pub kept_by : {C M : Type 0} → (C → M → C) → (C → M → Bool) → C → List M → List M
kept_by next kept c [] = []
kept_by next kept c (m ∷ ms) = cond (kept c m) (m ∷ kept_by next kept (next c m) ms) (kept_by next kept (next c m) ms)

-- what was heard for each message that is kept
abbrev pub heard_by : {B M R : Type 0} → (B → M → B) → (B → M → Bool) → (B → M → R) → B → List M → List R
heard_by step kept heard b [] = []
heard_by step kept heard b (m ∷ ms) = cond (kept b m) (heard b m ∷ heard_by step kept heard (step b m) ms) (heard_by step kept heard (step b m) ms)

-- f at each place that is called, all others as they are
abbrev pub each : {A : Type 0} → (ℕ → Bool) → (A → A) → List A → List A
each called f [] = []
each called f (x ∷ xs) = cond (called 0) (f x) x ∷ each (λ (i : ℕ). called (suc i)) f xs

-- f at each of the first n elements
abbrev pub first_each : {A : Type 0} → (A → A) → ℕ → List A → List A
first_each f zero l = l
first_each f (suc n) [] = []
first_each f (suc n) (x ∷ xs) = f x ∷ first_each f n xs
