-- Each promise at the door allows one outcome: its equations have the same right sides.
use Prim.Native.Nat.{ℕ}
use mathlib.Core.Path.{◌≡◌, sym, ◌∙◌}
use mathlib.Core.List.{List}
use Rattle.rs232c_asks.specs.Asks.{Heard, heard_of}

pub hear_one : (m : List ℕ) (r r' : Heard) → r ≡ heard_of m → r' ≡ heard_of m → r ≡ r'
hear_one m r r' p q = p ∙ sym q
