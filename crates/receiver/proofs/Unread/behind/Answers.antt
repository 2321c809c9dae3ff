-- What is left of the bytes held, and then of the piece, is what is left of both.
use Rattle.receiver.proofs.Parts.{behind_both}
use Rattle.receiver.proofs.Unread.behind.Goals as goal

pub returns-clause-both : goal.returns-clause-both
returns-clause-both c = let s = c.args.self in behind_both s.held.now s.piece.now c.args.n c.min-i.result c.min-i.ensures
