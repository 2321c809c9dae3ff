-- `look_through` gathers, then judges: before i all panels are laid at their places.
use mathlib.Core.Path.{◌≡◌}
use lib.ListN.{length}
use Rattle.box_rules.specs.Pairs.{gathered}
use Rattle.box_rules.specs.Ring.{Rings}
use Rattle.box_rules.proofs.look_through.Given as goal

abbrev pub invariant-loop-i : goal.invariant-loop-i
invariant-loop-i l =
    (length l.ids ≡ 8) × ((length l.ring ≡ 16) × ((l.ids ≡ gathered l.ps l.i) × Rings l.ids l.ring))
