-- The promise at the door allows one outcome, as every promise of a turn does.
use Prim.Native.Nat.{ℕ}
use mathlib.Core.Path.{◌≡◌}
use mathlib.Core.List.{List}
use Rattle.turns.specs.Turns.{Takes}
use Rattle.turns.proofs.Turns.{takes_one}
use Rattle.panels.specs.declared.WRecord.{WRecord}
use Rattle.rs232c.specs.Replies.{turn_of}
use Rattle.terms.specs.declared.Outcome.{Outcome}

pub take_frame_one : (m : List ℕ) (w : WRecord) (area : List ℕ) (r r' : Outcome WRecord) (z z' : List ℕ) → Takes (turn_of m) w area r.after r.answer r.len z → Takes (turn_of m) w area r'.after r'.answer r'.len z' → (r.after ≡ r'.after) × (r.answer ≡ r'.answer) × (r.len ≡ r'.len) × (z ≡ z')
take_frame_one m w area r r' z z' = takes_one (turn_of m) w area _ _ _ _ _ _ z z'
