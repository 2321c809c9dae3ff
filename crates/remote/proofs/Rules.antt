-- The rules of the table of codes, each from one test that is computed over all of it.
use Prim.Native.Nat.{ℕ, ◌<◌, ◌≤◌}
use mathlib.Core.Path.{◌≡◌, refl, sym, ap, ◌∙◌}
use mathlib.Core.Bool.{Bool, true, false, cond, ◌||◌}
use mathlib.Core.List.{List, [], ◌∷◌, map, Memᴰ}
use native.Mathlib.Omega.{arith}
use lib.Dec.{eqb, leb}
use borrow.Author.Tests.{leb-true}
use Rattle.std.specs.Prelude.{Option, Some, None}
use Rattle.laws.specs.Lists.{every, listed}
use Rattle.laws.proofs.Conditions.{and_first, and_second, choose, false_true}
use Rattle.laws.proofs.Lists.{listed_every}
use Rattle.remote.specs.Codes.{Code, codes, asked_in, button_of}
use Rattle.remote.specs.declared.Button.{Button}

-- ---- every row asks what it says

-- no row stands in the shadow of another with the same code
rows_ask : map (λ (c : Code). button_of c.code) codes ≡ map (λ (c : Code). Some c.asks) codes
unfolding button_of asked_in
rows_ask = refl

-- what two lists say of each element they say of one
of_each : {A B : Type 0} (f g : A → B) (l : List A) (x : A) → map f l ≡ map g l → Memᴰ x l → f x ≡ g x
of_each {A = A} {B = B} f g [] x e x4 = elim x4 [ ]
of_each f g (y ∷ l) x e (Memᴰ.head p) = let q : f y ≡ g y = cc in ap f p ∙ q ∙ ap g (sym p)
of_each f g (y ∷ l) x e (Memᴰ.tail m) = let q : map f l ≡ map g l = cc in of_each f g l x q m

pub listed_asks : (c : Code) → Memᴰ c codes → button_of c.code ≡ Some c.asks
listed_asks c = of_each (λ (r : Code). button_of r.code) (λ (r : Code). Some r.asks) codes c rows_ask

-- and none of them says that it is no code
pub asks_one : (c : Code) → Memᴰ c codes → button_of c.code ≡ None → ⊥
asks_one c m e = let a = listed_asks c m in cc

-- a button is one
abbrev is_button : Option Button → Bool
is_button None = false
is_button (Some b) = true

-- ---- every other number is none

-- the codes that are listed
abbrev pub numbers : List ℕ
numbers = map (λ (c : Code). c.code) codes

-- each of them is a button's: `unlisted` leaves out no more
pub listed_button : (n : ℕ) → listed numbers n ≡ true → button_of n ≡ None → ⊥
unfolding button_of asked_in
listed_button n e u = false_true (ap is_button (sym u) ∙ listed_every (λ (x : ℕ). is_button (button_of x)) numbers n refl e)

unlisted_in : (cs : List Code) (n : ℕ) → listed (map (λ (c : Code). c.code) cs) n ≡ false → asked_in cs n ≡ None
unfolding asked_in
unlisted_in [] n e = refl
unlisted_in (c ∷ cs) n e = go (eqb n c.code) e (unlisted_in cs n)
  where
    go : (b : Bool) → (b || listed (map (λ (r : Code). r.code) cs) n) ≡ false
        → (listed (map (λ (r : Code). r.code) cs) n ≡ false → asked_in cs n ≡ None) → cond b (Some c.asks) (asked_in cs n) ≡ None
    go true e r = absurd (false_true (sym e))
    go false e r = r e

pub unlisted : (n : ℕ) → listed numbers n ≡ false → button_of n ≡ None
unfolding button_of
unlisted n = unlisted_in codes n

-- what holds of a number that is none, and of what each row asks, holds of what any number asks
pub each_asks : (f : Option Button → Bool) → f None ≡ true → every (λ (c : Code). f (Some c.asks)) codes ≡ true → (n : ℕ) → f (button_of n) ≡ true
unfolding button_of asked_in
each_asks f u e n = each_in codes e
  where
    each_in : (cs : List Code) → every (λ (c : Code). f (Some c.asks)) cs ≡ true → f (asked_in cs n) ≡ true
    each_in [] e = u
    each_in (c ∷ cs) e =
        choose (λ (b : Option Button). f b ≡ true) (eqb n c.code) (Some c.asks) (asked_in cs n)
        (λ _. and_first (f (Some c.asks)) (every (λ (r : Code). f (Some r.asks)) cs) e)
        (λ _. each_in cs (and_second (f (Some c.asks)) (every (λ (r : Code). f (Some r.asks)) cs) e))

-- no code is beyond the code's table
pub beyond : (n : ℕ) → 130 < n → button_of n ≡ None
beyond n h = unlisted n (go (listed numbers n) refl)
  where
    go : (b : Bool) → listed numbers n ≡ b → b ≡ false
    go false e = refl
    go true e = let k : n ≤ 130 = leb-true n 130 (listed_every (λ (x : ℕ). leb x 130) numbers n refl e) in absurd (omega arith)
