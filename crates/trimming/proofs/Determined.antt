-- The promise at the door allows one outcome: it is an equation.
use mathlib.Core.Path.{◌≡◌, sym, ◌∙◌}
use mathlib.Core.List.{List}
use Prim.Native.Nat.{ℕ}
use Rattle.trimming.specs.Trimming.{trimmed}

pub trim_one : (d r r' : List ℕ) → r ≡ trimmed d → r' ≡ trimmed d → r ≡ r'
trim_one d r r' p q = p ∙ sym q
