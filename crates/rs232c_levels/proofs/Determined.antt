-- Each promise at the door allows one outcome: its equations have the same right sides.
use Prim.Native.Nat.{ℕ}
use mathlib.Core.Path.{◌≡◌, sym, ◌∙◌}
use mathlib.Core.List.{List}
use Rattle.panels.specs.declared.Balance.{Balance}
use Rattle.rs232c_asks.specs.Asks.{values_of}
use Rattle.rs232c_levels.specs.Levels.{balanced_by}

pub rebalance_one : (m : List ℕ) (mask : ℕ) (b r r' : Balance) → r ≡ balanced_by mask (values_of m) b → r' ≡ balanced_by mask (values_of m) b → r ≡ r'
rebalance_one m mask b r r' p q = p ∙ sym q
