-- Every message is answered with a number of the list: that of one of its checks, or 0.
use Prim.Native.Nat.{ℕ}
use mathlib.Core.Path.{◌≡◌, refl, sym, ap, subst, ◌∙◌}
use mathlib.Core.Bool.{Bool, true, false, ◌||◌, or-true}
use mathlib.Core.List.{List, [], ◌∷◌}
use lib.Dec.{eqb}
use borrow.Author.Tests.{eq-eqb}
use Rattle.laws.specs.Lists.{listed}
use Rattle.laws.proofs.Conditions.{false_true}
use Rattle.terms.specs.Answers.{number_of}
use Rattle.panels.specs.declared.DisplayBox.{DisplayBox}
use Rattle.steps.specs.Messages.{Message}
use Rattle.steps.specs.Step.{checks, message_answers, step}
use Rattle.steps.proofs.Judged.{first_of}
use Rattle.steps.proofs.Checks.{conditions, checked}

-- the number of the first condition that holds is among the numbers, or 0
first_listed : (ns : List ℕ) (cs : List Bool) → listed (0 ∷ ns) (first_of ns cs) ≡ true
first_listed [] cs = refl
first_listed (n ∷ ns) [] = refl
first_listed (n ∷ ns) (true ∷ cs) = rw (eq-eqb n n refl) (or-true (eqb n 0))
first_listed (n ∷ ns) (false ∷ cs) = go (eqb (first_of ns cs) 0) (eqb (first_of ns cs) n) (first_listed ns cs)
  where
    go : (a b : Bool) → (a || listed ns (first_of ns cs)) ≡ true → (a || (b || listed ns (first_of ns cs))) ≡ true
    go true b e = refl
    go false true e = refl
    go false false e = e

-- every message, on every box, is answered with a number of the list
pub numbered : (b : DisplayBox) (m : Message) → listed message_answers (number_of (step b m).answer) ≡ true
numbered b m = ap (listed message_answers) (checked b m) ∙ first_listed checks (conditions b m)

-- so none with a number that it has not
never : (n : ℕ) → listed message_answers n ≡ false → (b : DisplayBox) (m : Message) → number_of (step b m).answer ≡ n → ⊥
never n l b m e = false_true (sym l ∙ subst (λ (k : ℕ). listed message_answers k ≡ true) e (numbered b m))

-- 5 is the answer to an advert only, since document 02, §8, has 9 to 14 for messages
pub never_five : (b : DisplayBox) (m : Message) → number_of (step b m).answer ≡ 5 → ⊥
never_five = never 5 refl

-- 7 is the answer to a configuration only
pub never_seven : (b : DisplayBox) (m : Message) → number_of (step b m).answer ≡ 7 → ⊥
never_seven = never 7 refl
