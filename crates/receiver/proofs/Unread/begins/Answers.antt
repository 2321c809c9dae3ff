-- The bytes held are asked as far as they go, and the piece for what of the six bytes is left.
use mathlib.Core.Path.{sym, ◌∙◌}
use Rattle.receiver.proofs.Front.{begins_not, begins_on}
use Rattle.receiver.proofs.Unread.begins.Goals as goal

pub returns-then-agree : goal.returns-then-agree
returns-then-agree c =
    let s = c.args.self in
    begins_on s.held.now s.piece.now c.min-i.result c.agree-then-agree.result c.min-i.ensures (sym c.agree.ensures ∙ c.if-agree.true) c.agree-then-agree.ensures

pub returns-else-agree : goal.returns-else-agree
returns-else-agree c =
    let s = c.args.self in
    c.if-agree.false ∙ begins_not s.held.now s.piece.now (sym c.agree.ensures ∙ c.if-agree.false)
