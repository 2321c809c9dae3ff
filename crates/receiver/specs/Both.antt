-- Document 02, §1, "bytes held are read before the piece": for the contracts of the code alone.
use Rattle.std.specs.Prelude.{ℕ, List, ◌++◌}
use Rattle.receiver.specs.declared.Unread.{Unread}

-- the bytes that a call reads
abbrev pub both : Unread → List ℕ
both s = s.held.now ++ s.piece.now
