-- `are_within` asks every place: before i the flag says whether all keep their bounds, and what is left from i on says the rest.
use Rattle.std.proofs.Common.{◌≡◌, ◌≤◌, ◌&&◌, length, drop}
use Rattle.laws.specs.Lists.{within}
use Rattle.octets.proofs.are_within.Given as goal

abbrev pub invariant-loop-i : goal.invariant-loop-i
invariant-loop-i l = (l.i-end ≡ length l.numbers) × (length l.numbers ≤ length l.bounds) × (within l.numbers l.bounds ≡ (l.ok && within (drop l.i l.numbers) (drop l.i l.bounds)))
