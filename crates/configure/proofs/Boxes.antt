-- A configuration gives a box that keeps the rules, or the one box of no panels: by the test that it is judged by.
use mathlib.Core.Path.{◌≡◌, refl, ap}
use mathlib.Core.Bool.{Bool, true, false, cond, ◌&&◌}
use mathlib.Core.List.{List}
use Prim.Native.Nat.{ℕ, ◌%◌}
use native.Mathlib.Omega.{arith}
use lib.Dec.{eqb}
use lib.ListN.{length}
use Rattle.laws.proofs.Conditions.{and_second}
use Rattle.terms.specs.Answers.{number_of}
use Rattle.terms.specs.declared.Answer.TheVariants.{Done}
use Rattle.panels.specs.Valid.{valid}
use Rattle.configure.specs.Configure.{asked, refusal, configured}
use Rattle.panels.specs.declared.DisplayBox.{DisplayBox}
use Rattle.configure.specs.declared.Configured.{Configured}

-- what a configuration gives with an answer: 0 and a box that keeps the rules, or 7 and the one box of no panels
pub data Configures : Configured → Type 0 where
  made : (b : DisplayBox) → valid b ≡ true → Configures (record { answer = Done; made = b })
  refused : Configures refusal

pub outcome : (c : List ℕ) → Configures (configured c)
unfolding configured
outcome c = go (eqb (length c % 3) 0 && valid (asked c)) refl
  where
    go : (b : Bool) → (eqb (length c % 3) 0 && valid (asked c)) ≡ b → Configures (cond b (record { answer = Done; made = asked c }) refusal)
    go true e = made (asked c) (and_second (eqb (length c % 3) 0) (valid (asked c)) e)
    go false e = refused

-- so 0 says that the box keeps the rules, and any other answer says the whole outcome
pub configured_valid : (c : List ℕ) → (configured c).answer ≡ Done → valid (configured c).made ≡ true
configured_valid c = go (configured c) (outcome c)
  where
    go : (r : Configured) → Configures r → r.answer ≡ Done → valid r.made ≡ true
    go r (made b v) e = v
    go r refused e = let z : ◌≡◌ {A = ℕ} 7 0 = ap number_of e in absurd (omega arith)

pub configured_none : (c : List ℕ) → ((configured c).answer ≡ Done → ⊥) → configured c ≡ refusal
configured_none c = go (configured c) (outcome c)
  where
    go : (r : Configured) → Configures r → (r.answer ≡ Done → ⊥) → r ≡ refusal
    go r (made b v) n = absurd (n refl)
    go r refused n = refl
