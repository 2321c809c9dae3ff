-- Each promise at the door allows one outcome: its equations have the same right sides.
use Prim.Native.Nat.{ℕ}
use mathlib.Core.Path.{◌≡◌, sym, ◌∙◌}
use mathlib.Core.Bool.{Bool}
use mathlib.Core.List.{List, map}
use lib.ListN.{length}
use Rattle.std.specs.Prelude.{Result}
use Rattle.terms.specs.declared.Answer.{Answer}
use Rattle.box_rules.specs.declared.Ids.{Ids}
use Rattle.steps.specs.Addressing.{is_called, any_called}
use Rattle.steps.specs.Step.{to_nobody}
use Rattle.addresses.specs.Doors.{id_name, opened}
use Rattle.addresses.specs.declared.Line.{Line}

pub to_nobody_one : (m : List ℕ) (r r' : Answer) → r ≡ to_nobody m → r' ≡ to_nobody m → r ≡ r'
to_nobody_one m r r' p q = p ∙ sym q

pub door_of_one : (line : Line) (ids : List Ids) (l : ℕ) (m : List ℕ) (room : ℕ) (r r' : Result ℕ Answer) → (r ≡ opened line (map id_name ids) l m room) × (length ids ≡ 8) → (r' ≡ opened line (map id_name ids) l m room) × (length ids ≡ 8) → r ≡ r'
door_of_one line ids l m room r r' p q = p.0 ∙ sym q.0

pub is_called_one : (m : List ℕ) (i : Ids) (r r' : Bool) → r ≡ is_called m (id_name i) → r' ≡ is_called m (id_name i) → r ≡ r'
is_called_one m i r r' p q = p ∙ sym q

pub any_called_one : (m : List ℕ) (ids : List Ids) (r r' : Bool) → r ≡ any_called m (map id_name ids) → r' ≡ any_called m (map id_name ids) → r ≡ r'
any_called_one m ids r r' p q = p ∙ sym q
