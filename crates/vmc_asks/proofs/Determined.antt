-- Each promise at the door allows one outcome: its equations have the same right sides.
use mathlib.Core.Path.{◌≡◌, sym, ◌∙◌}
use mathlib.Core.Bool.{Bool}
use mathlib.Core.List.{List}
use Prim.Native.Nat.{ℕ}
use Rattle.vmc_asks.specs.Asks.{read_data, asks_status}
use Rattle.std.specs.Prelude.{Option}
use Rattle.vmc_asks.specs.declared.Order.{Order}

pub read_data_one : (d : List ℕ) (r r' : Option Order) → r ≡ read_data d → r' ≡ read_data d → r ≡ r'
read_data_one d r r' p q = p ∙ sym q

pub asks_status_one : (d : List ℕ) (r r' : Bool) → r ≡ asks_status d → r' ≡ asks_status d → r ≡ r'
asks_status_one d r r' p q = p ∙ sym q
