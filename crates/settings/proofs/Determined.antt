-- Each promise at the door allows one outcome: its equations have the same right sides.
use mathlib.Core.Path.{◌≡◌, sym, ◌∙◌}
use mathlib.Core.List.{List}
use Prim.Native.Nat.{ℕ}
use Rattle.settings.specs.Table.{mosts, starts}

pub most_values_one : (r r' : List ℕ) → r ≡ mosts → r' ≡ mosts → r ≡ r'
most_values_one r r' p q = p ∙ sym q

pub start_values_one : (r r' : List ℕ) → r ≡ starts → r' ≡ starts → r ≡ r'
start_values_one r r' p q = p ∙ sym q
