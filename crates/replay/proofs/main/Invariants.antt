-- Between two turns of `main`, box, store and what is kept are those that calls on the input so far leave.
use Rattle.std.proofs.Common.{◌≡◌, ℕ, List, length}
use Rattle.script_run.specs.Calls.{Reached}
use Rattle.replay.proofs.main.Given as goal

abbrev pub invariant-loop : goal.invariant-loop
invariant-loop l = ((bytes : List ℕ) × Reached bytes l.p.held l.store l.p.kept) × (length l.piece ≡ 65536) × (length l.area ≡ 65536)
