-- The promise at the door allows one outcome: its equations have the same right side.
use Prim.Native.Nat.{ℕ}
use mathlib.Core.Path.{◌≡◌, sym, ◌∙◌}
use mathlib.Core.List.{List}
use Rattle.std.specs.Prelude.{Option}
use Rattle.kjw_codes.specs.Presses.{code_order}
use Rattle.kjw_sets.specs.declared.Order.{Order}

pub code_order_one : (p : List ℕ) (r r' : Option Order) → r ≡ code_order p → r' ≡ code_order p → r ≡ r'
code_order_one p r r' e f = e ∙ sym f
