-- `read_front` fills the front from its start: what came so far lies in it, and a read gives no more bytes than there is room for.
use Rattle.std.proofs.Common.{◌≤◌}
use Rattle.advert.proofs.read_front.Given as goal

abbrev pub invariant-loop : goal.invariant-loop
invariant-loop g l = l.n ≤ 123
