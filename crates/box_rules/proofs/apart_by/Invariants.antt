-- `apart_by` keeps one flag: after i turns it says what is asked of the places below i.
use Prim.Native.Nat.{ℕ, ◌+◌}
use mathlib.Core.Path.{◌≡◌}
use mathlib.Core.Bool.{Bool, not}
use mathlib.Core.List.{List}
use lib.Dec.{eqb}
use lib.ListN.{get_or}
use Rattle.laws.specs.Lists.{every_below}
use Rattle.box_rules.proofs.apart_by.Given as goal

-- what is asked at a place
abbrev Other : List ℕ → ℕ → ℕ → Bool
Other ring d k = not (eqb (get_or ring k 0) (get_or ring (k + d) 0))

abbrev pub invariant-loop-i : goal.invariant-loop-i
invariant-loop-i l = l.ok ≡ every_below l.i (Other l.ring l.d)
