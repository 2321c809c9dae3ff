-- `lay` copies a byte a turn: after i turns the first i bytes are laid over the area; where they do not fit it copies none.
use mathlib.Core.Path.{◌≡◌}
use lib.ListN.{length}
use lib.Seq.{paste}
use Rattle.octets.proofs.lay.Given as goal

abbrev pub invariant-loop-i : goal.invariant-loop-i
invariant-loop-i l = (l.i-end ≡ length l.bytes) × ((length l.out ≡ length l.initial.out) × (l.out ≡ paste l.initial.out l.at l.bytes l.i))
