-- Each promise at the door allows one outcome: its equations have the same right sides.
use Prim.Native.Nat.{ℕ}
use mathlib.Core.Path.{◌≡◌, sym, ◌∙◌}
use Rattle.panels.specs.declared.Inputs.{Inputs}
use Rattle.rs232c_inputs.specs.Inputs.{configured_by, selected_by}

pub config_one : (marks byte : ℕ) (i r r' : Inputs) → r ≡ configured_by marks byte i → r' ≡ configured_by marks byte i → r ≡ r'
config_one marks byte i r r' p q = p ∙ sym q

pub select_one : (byte : ℕ) (i r r' : Inputs) → r ≡ selected_by byte i → r' ≡ selected_by byte i → r ≡ r'
select_one byte i r r' p q = p ∙ sym q
