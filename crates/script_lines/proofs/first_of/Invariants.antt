-- `first_of` asks the rows in turn: before the index none is asked, so what is left from there on decides.
use mathlib.Core.List.{map}
use mathlib.Core.Path.{◌≡◌}
use lib.ListN.{drop}
use Rattle.script_lines.specs.Orders.{lent, order_in}
use Rattle.script_lines.proofs.first_of.Given as goal

abbrev pub invariant-loop-row : goal.invariant-loop-row
invariant-loop-row l = order_in (map lent l.rows) l.line ≡ order_in (drop l.row-index (map lent l.rows)) l.line
