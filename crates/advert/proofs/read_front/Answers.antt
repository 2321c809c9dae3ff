-- `read_front` counts what came: a read gives no more bytes than there is room for.
use Rattle.std.proofs.Common.{◌-◌, ◌≤◌, arith, rules}
use Rattle.advert.proofs.read_front.Goals as goal

pub loop-preserved : goal.loop-preserved
loop-preserved g c =
    let room : c.read_some-came.result ≤ 123 - c.loop.n = search rules in
    let before : c.loop.n ≤ 123 = c.loop.invariant in
    omega (arith, room, before)
