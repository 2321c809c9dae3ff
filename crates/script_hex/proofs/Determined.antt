-- Each promise at the door allows one outcome: its equations have the same right sides.
use Prim.Native.Nat.{ℕ, ◌<◌}
use mathlib.Core.Bool.{Bool}
use mathlib.Core.Path.{◌≡◌, sym, ◌∙◌}
use mathlib.Core.List.{List}
use Rattle.script_hex.specs.Hex.{hex_value, is_hex}

pub hex_value_one : (b r r' : ℕ) → (r ≡ hex_value b) × (r < 16) → (r' ≡ hex_value b) × (r' < 16) → r ≡ r'
hex_value_one b r r' p q = p.0 ∙ sym q.0

pub is_hex_one : (w : List ℕ) (r r' : Bool) → r ≡ is_hex w → r' ≡ is_hex w → r ≡ r'
is_hex_one w r r' p q = p ∙ sym q
