-- `take_piece` goes on behind the bytes that each call took, and a call takes at least one; together they take the whole piece.
use Rattle.std.proofs.Common.{◌≡◌, ℕ, ◌-◌, ◌≤◌, List, ◌++◌, length, take}
use Rattle.script_run.specs.Calls.{Reached}
use Rattle.replay.proofs.take_piece.Given as goal

abbrev pub invariant-loop-at : goal.invariant-loop-at
invariant-loop-at g l =
    (l.at ≤ length l.piece) × (length l.area ≡ length l.initial.area)
    × ((bytes : List ℕ) → Reached bytes l.initial.q.held l.initial.store l.initial.q.kept → Reached (bytes ++ take l.at l.piece) l.q.held l.store l.q.kept)

abbrev pub decreases-loop-at : goal.decreases-loop-at
decreases-loop-at g l = length l.piece - l.at
