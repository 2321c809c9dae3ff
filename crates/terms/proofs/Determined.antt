-- Each promise at the door allows one outcome: its equations have the same right sides.
use mathlib.Core.Path.{◌≡◌, sym, ◌∙◌}
use mathlib.Core.Bool.{Bool}
use Prim.Native.Nat.{ℕ}
use lib.Dec.{eqb}
use Rattle.terms.specs.Answers.{number_of, answer_place}
use Rattle.terms.specs.declared.Answer.{Answer}
use Rattle.terms.specs.declared.GroupId.{GroupId}
use Rattle.terms.specs.declared.Outcome.{Outcome}
use Rattle.terms.specs.declared.UnitId.{UnitId}

pub number_one : (a : Answer) (r r' : ℕ) → r ≡ number_of a → r' ≡ number_of a → r ≡ r'
number_one a r r' p q = p ∙ sym q

pub place_one : (a : Answer) (r r' : ℕ) → r ≡ answer_place a → r' ≡ answer_place a → r ≡ r'
place_one a r r' p q = p ∙ sym q

-- the same two under the names of what they tell
pub answer_number_one : (a : Answer) (r r' : ℕ) → r ≡ number_of a → r' ≡ number_of a → r ≡ r'
answer_number_one = number_one

pub answer_place_one : (a : Answer) (r r' : ℕ) → r ≡ answer_place a → r' ≡ answer_place a → r ≡ r'
answer_place_one = place_one

-- two IDs of a kind are equal in one way
pub same_group_one : (a b : GroupId) (r r' : Bool) → r ≡ eqb a.0 b.0 → r' ≡ eqb a.0 b.0 → r ≡ r'
same_group_one a b r r' p q = p ∙ sym q

pub same_unit_one : (a b : UnitId) (r r' : Bool) → r ≡ eqb a.0 b.0 → r' ≡ eqb a.0 b.0 → r ≡ r'
same_unit_one a b r r' p q = p ∙ sym q

-- a refusal's three parts
pub refused_one : {R : Type 0} (x : R) (a : Answer) (r r' : Outcome R) → (r.after ≡ x) × (r.answer ≡ a) × (r.len ≡ 0) → (r'.after ≡ x) × (r'.answer ≡ a) × (r'.len ≡ 0) → (r.after ≡ r'.after) × (r.answer ≡ r'.answer) × (r.len ≡ r'.len)
refused_one x a r r' p q = (p.0 ∙ sym q.0, p.1 ∙ sym q.1, p.2 ∙ sym q.2)
