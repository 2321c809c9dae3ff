-- The promise at the door allows one outcome: its equations have the same right sides.
use Prim.Native.Nat.{ℕ}
use mathlib.Core.Path.{◌≡◌, sym, ◌∙◌}
use mathlib.Core.List.{List}
use Rattle.panels.specs.declared.DisplayBox.{DisplayBox}
use Rattle.ways_in.specs.Promise.{outcome_of, came_by}
use Rattle.ways_in.specs.declared.Way.{Way}
use Rattle.ways_in.specs.declared.Outcome.{Outcome}

pub take_one : (b : DisplayBox) (way : Way) (l : ℕ) (m area : List ℕ) (r r' : Outcome) (x x' : List ℕ) → (r ≡ outcome_of (came_by way b l m area)) × (x ≡ (came_by way b l m area).area) → (r' ≡ outcome_of (came_by way b l m area)) × (x' ≡ (came_by way b l m area).area) → (r ≡ r') × (x ≡ x')
take_one b way l m area r r' x x' p q = (p.0 ∙ sym q.0, p.1 ∙ sym q.1)
