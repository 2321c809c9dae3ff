-- Each promise at the door allows one outcome: its equations have the same right sides.
use mathlib.Core.Path.{◌≡◌, sym, ◌∙◌}
use mathlib.Core.List.{List}
use Prim.Native.Nat.{ℕ}
use Rattle.configure.specs.Configure.{configured}
use Rattle.configure.specs.declared.Configured.{Configured}

pub configure_one : (c : List ℕ) (r r' : Configured) → r ≡ configured c → r' ≡ configured c → r ≡ r'
configure_one c r r' p q = p ∙ sym q
