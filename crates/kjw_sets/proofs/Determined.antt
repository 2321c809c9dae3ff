-- Each promise at the door allows one outcome: its equations have the same right sides.
use Prim.Native.Nat.{ℕ}
use mathlib.Core.Path.{◌≡◌, sym, ◌∙◌}
use mathlib.Core.List.{List}
use Rattle.std.specs.Prelude.{Option}
use Rattle.kjw_sets.specs.Sets.{set_of}
use Rattle.kjw_sets.specs.declared.State.{State}
use Rattle.kjw_sets.specs.declared.Order.{Order}
use Rattle.kjw_sets.specs.Words.{state_letters}

pub set_order_one : (s : State) (p : List ℕ) (r r' : Option Order) → r ≡ set_of s p → r' ≡ set_of s p → r ≡ r'
set_order_one s p r r' e f = e ∙ sym f

pub letters_one : (s : State) (r r' : List ℕ) → r ≡ state_letters s → r' ≡ state_letters s → r ≡ r'
letters_one s r r' p q = p ∙ sym q
