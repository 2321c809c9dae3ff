-- Each promise at the door allows one outcome: its equations have the same right sides.
use Prim.Native.Nat.{ℕ}
use mathlib.Core.Path.{◌≡◌, sym, ◌∙◌}
use mathlib.Core.List.{List}
use Rattle.script_lines.specs.Orders.{order_of}
use Rattle.script_lines.specs.declared.Order.{Order}

pub order_of_one : (line : List ℕ) (r r' : Order) → r ≡ order_of line → r' ≡ order_of line → r ≡ r'
order_of_one line r r' p q = p ∙ sym q
