-- A shut door's answer is not 0: it is 1, 2, or that of a message to nobody.
use Prim.Native.Nat.{ℕ}
use mathlib.Core.Path.{◌≡◌, refl, subst}
use mathlib.Core.Bool.{false}
use mathlib.Core.List.{List}
use lib.Dec.{eqb, ltb}
use Rattle.laws.proofs.Conditions.{choose}
use Rattle.terms.specs.Answers.{number_of}
use Rattle.terms.specs.declared.Answer.{Answer}
use Rattle.steps.specs.Messages.{Name, on_link}
use Rattle.steps.proofs.Door.{nobody_shut}
use Rattle.addresses.specs.Doors.{is_of, target_by, opened}
use Rattle.addresses.specs.declared.Line.{Line}
use Rattle.std.specs.Prelude.{Result, Ok, Err}

abbrev Refusing : Result ℕ Answer → Type 0
Refusing (Err a) = eqb (number_of a) 0 ≡ false
Refusing (Ok i) = Unit {0}

refusing : (line : Line) (ns : List Name) (l : ℕ) (m : List ℕ) (room : ℕ) → Refusing (opened line ns l m room)
unfolding opened
refusing line ns l m room =
    choose Refusing (ltb room 512) _ _ (λ e. refl)
    (λ e. choose Refusing (is_of line (on_link ns l)) _ _
    (λ f. choose Refusing (eqb (target_by line ns l m) 0) _ _ (λ g. nobody_shut m) (λ g. tt)) (λ f. refl))

pub shut_undone : (line : Line) (ns : List Name) (l : ℕ) (m : List ℕ) (room : ℕ) (a : Answer) → opened line ns l m room ≡ Err a → eqb (number_of a) 0 ≡ false
shut_undone line ns l m room a e = subst Refusing e (refusing line ns l m room)
