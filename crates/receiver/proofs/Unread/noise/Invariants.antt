-- `noise` drops a byte held a turn, and behind the last one the noise of the piece alone is left.
use mathlib.Core.Path.{◌≡◌}
use Prim.Native.Nat.{◌+◌}
use lib.ListN.{drop}
use Rattle.receiver.specs.Stream.{noise}
use Rattle.receiver.specs.Both.{both}
use Rattle.receiver.proofs.Unread.noise.Given as goal

abbrev pub invariant-loop-j : goal.invariant-loop-j
invariant-loop-j l = noise (both l.self) ≡ l.j + noise (drop l.j (both l.self))
