-- The promise at the door allows one outcome, as every promise of a turn does.
use Prim.Native.Nat.{ℕ}
use mathlib.Core.Path.{◌≡◌}
use mathlib.Core.List.{List}
use Rattle.turns.specs.Turns.{Takes}
use Rattle.turns.proofs.Turns.{takes_one}
use Rattle.panels.specs.declared.KRecord.{KRecord}
use Rattle.kjw.specs.Replies.{turn_of}
use Rattle.terms.specs.declared.Outcome.{Outcome}

pub take_frame_one : (m : List ℕ) (k : KRecord) (area : List ℕ) (r r' : Outcome KRecord) (z z' : List ℕ) → Takes (turn_of m) k area r.after r.answer r.len z
    → Takes (turn_of m) k area r'.after r'.answer r'.len z' → (r.after ≡ r'.after) × (r.answer ≡ r'.answer) × (r.len ≡ r'.len) × (z ≡ z')
take_frame_one m k area r r' z z' = takes_one (turn_of m) k area _ _ _ _ _ _ z z'
