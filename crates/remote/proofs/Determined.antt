-- The promise at the door allows one outcome: its equations have the same right side.
use Prim.Native.Nat.{ℕ}
use mathlib.Core.Path.{◌≡◌, sym, ◌∙◌}
use Rattle.std.specs.Prelude.{Option}
use Rattle.remote.specs.Codes.{button_of}
use Rattle.remote.specs.declared.Button.{Button}

pub button_of_one : (code : ℕ) (r r' : Option Button) → r ≡ button_of code → r' ≡ button_of code → r ≡ r'
button_of_one code r r' p q = p ∙ sym q
