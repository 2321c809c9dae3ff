-- Each promise at the door allows one outcome: its equations have the same right sides.
use mathlib.Core.Path.{◌≡◌, sym, ◌∙◌}
use mathlib.Core.Bool.{Bool}
use mathlib.Core.List.{List}
use Prim.Native.Nat.{ℕ}
use Rattle.sdcp_asks.specs.Asks.{is_ours, heard_of, cast_of, Heard}

pub is_ours_one : (m : List ℕ) (r r' : Bool) → r ≡ is_ours m → r' ≡ is_ours m → r ≡ r'
is_ours_one m r r' p q = p ∙ sym q

pub hear_one : (m : List ℕ) (r r' : Heard) → r ≡ heard_of m → r' ≡ heard_of m → r ≡ r'
hear_one m r r' p q = p ∙ sym q

pub hear_cast_one : (m : List ℕ) (r r' : Heard) → r ≡ cast_of m → r' ≡ cast_of m → r ≡ r'
hear_cast_one m r r' p q = p ∙ sym q
