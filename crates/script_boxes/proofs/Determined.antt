-- Each promise at the door allows one outcome: its equations have the same right sides.
use Prim.Native.Nat.{ℕ}
use mathlib.Core.Path.{◌≡◌, sym, ◌∙◌}
use mathlib.Core.List.{List}
use Rattle.laws.specs.Bytes.{Sent}
use Rattle.laws.proofs.Bytes.{sent_one}
use Rattle.script_boxes.specs.Boxes.{panels_in, configuration_of}

pub configuration_in_one : (line : List ℕ) (r r' : ℕ) (area x x' : List ℕ) → Sent (configuration_of line) r area x → Sent (configuration_of line) r' area x' → (r ≡ r') × (x ≡ x')
configuration_in_one line = sent_one (configuration_of line)

pub panels_in_one : (line : List ℕ) (r r' : ℕ) → r ≡ panels_in line → r' ≡ panels_in line → r ≡ r'
panels_in_one line r r' p q = p ∙ sym q
