use mathlib.Core.Path.{◌∙◌, sym}
use Rattle.script_lines.proofs.Orders.{asked, none_asked, not_asked}
use Rattle.script_lines.proofs.first_of.Goals as goal

pub returns-then-is_asked : goal.returns-then-is_asked
returns-then-is_asked c =
    sym (c.loop-row.invariant ∙ asked c.args.rows.now _ c.args.line.now c.loop-row.row-index c.loop-row-test.true (sym c.is_asked.ensures ∙ c.if-is_asked.true))

pub loop-row-preserved : goal.loop-row-preserved
loop-row-preserved c =
    c.loop-row.invariant ∙ not_asked c.args.rows.now _ c.args.line.now c.loop-row.row-index c.loop-row-test.true (sym c.is_asked.ensures ∙ c.if-is_asked.false)

pub returns : goal.returns
returns c = sym (c.loop-row.invariant ∙ none_asked c.args.rows.now c.args.line.now c.loop-row.row-index c.loop-row-test.false)
