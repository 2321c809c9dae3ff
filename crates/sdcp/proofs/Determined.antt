-- Each promise at the door allows one outcome: its equations have the same right sides, and that of a turn is `Takes`.
use mathlib.Core.Path.{◌≡◌}
use mathlib.Core.List.{List}
use Prim.Native.Nat.{ℕ}
use Rattle.turns.specs.Turns.{Takes}
use Rattle.turns.proofs.Turns.{takes_one}
use Rattle.panels.specs.declared.WRecord.{WRecord}
use Rattle.sdcp.specs.Replies.{turn_of}
use Rattle.terms.specs.declared.Outcome.{Outcome}

pub take_packet_one : (m : List ℕ) (w : WRecord) (area : List ℕ) (r r' : Outcome WRecord) (z z' : List ℕ) → Takes (turn_of m) w area r.after r.answer r.len z → Takes (turn_of m) w area r'.after r'.answer r'.len z' → (r.after ≡ r'.after) × (r.answer ≡ r'.answer) × (r.len ≡ r'.len) × (z ≡ z')
take_packet_one m w area r r' z z' = takes_one (turn_of m) w area _ _ _ _ _ _ z z'
