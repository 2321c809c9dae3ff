-- `noise_in` drops a byte a turn: what it has dropped and the noise from there on are the noise of the whole.
use mathlib.Core.Path.{◌≡◌}
use Prim.Native.Nat.{◌+◌}
use lib.ListN.{drop}
use Rattle.receiver.specs.Stream.{noise}
use Rattle.receiver.proofs.noise_in.Given as goal

abbrev pub invariant-loop-j : goal.invariant-loop-j
invariant-loop-j l = noise l.s ≡ l.j + noise (drop l.j l.s)
