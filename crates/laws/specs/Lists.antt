-- What is asked of each element of a list.
use Rattle.std.specs.Prelude.{ℕ, zero, suc, ◌+◌, Bool, true, false, ◌&&◌, ◌||◌, List, [], ◌∷◌, eqb, leb}

-- f says yes of every element
abbrev pub every : {A : Type 0} → (A → Bool) → List A → Bool
every f [] = true
every f (x ∷ xs) = f x && every f xs

-- f says yes of every number below n
abbrev pub every_below : ℕ → (ℕ → Bool) → Bool
every_below zero f = true
every_below (suc n) f = f n && every_below n f

-- x is among the listed numbers
abbrev pub listed : List ℕ → ℕ → Bool
listed [] x = false
listed (y ∷ ys) x = eqb x y || listed ys x

-- each number is at most the bound that stands at its place; a number without a bound is out of range
abbrev pub within : List ℕ → List ℕ → Bool
within [] bs = true
within (x ∷ xs) [] = false
within (x ∷ xs) (b ∷ bs) = leb x b && within xs bs

-- f at each of n places, from place i on
abbrev pub places : {A : Type 0} → ℕ → ℕ → (ℕ → A) → List A
places zero i f = []
places (suc n) i f = f i ∷ places n (i + 1) f
