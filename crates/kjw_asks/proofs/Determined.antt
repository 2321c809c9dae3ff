-- Each promise at the door allows one outcome: its equations have the same right sides.
use Prim.Native.Nat.{ℕ}
use mathlib.Core.Path.{◌≡◌, sym, ◌∙◌}
use mathlib.Core.List.{List}
use Rattle.std.specs.Prelude.{Result}
use Rattle.kjw_asks.specs.Frames.{letters_of}
use Rattle.kjw_asks.specs.Asks.{heard_of}
use Rattle.kjw_sets.specs.declared.Order.{Order}
use Rattle.kjw_asks.specs.declared.Fault.{Fault}

pub letters_of_one : (m r r' : List ℕ) → r ≡ letters_of m → r' ≡ letters_of m → r ≡ r'
letters_of_one m r r' p q = p ∙ sym q

pub hear_one : (m : List ℕ) (r r' : Result Order Fault) → r ≡ heard_of m → r' ≡ heard_of m → r ≡ r'
hear_one m r r' p q = p ∙ sym q
