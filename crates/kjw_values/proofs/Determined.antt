-- The promise at the door allows one outcome: its equation has one right side.
use Prim.Native.Nat.{ℕ}
use mathlib.Core.Path.{◌≡◌, sym, ◌∙◌}
use mathlib.Core.List.{List}
use Rattle.panels.specs.declared.KRecord.{KRecord}
use Rattle.kjw_sets.specs.declared.State.{State}
use Rattle.kjw_values.specs.Values.{value_of}

pub value_of_one : (s : State) (k : KRecord) (r r' : List ℕ) → r ≡ value_of s k → r' ≡ value_of s k → r ≡ r'
value_of_one s k r r' p q = p ∙ sym q
