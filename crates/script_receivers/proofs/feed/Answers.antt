-- Each call goes on with what is left of the piece, until one hands out nothing.
use Rattle.script_answers.specs.Answers.{filler}
use Rattle.script_receivers.proofs.Feeding.{goes_first, goes_further, goes_inside, goes_done, read_less}
use Rattle.script_receivers.proofs.feed.Goals as goal

pub loop-init : goal.loop-init
loop-init c =
    let a = c.args in
    goes_first a.link (filler a.room) a.b a.r a.piece.now a.out.now

pub call-requires : goal.call-requires
call-requires c =
    let a = c.args in
    let i = c.loop.invariant in
    (c.requires, i.taken_in, goes_inside a.link (filler a.room) a.b a.r a.piece.now a.out.now i)

pub loop-smaller : goal.loop-smaller
loop-smaller c = read_less c.call.ensures c.loop-test.true

pub loop-preserved : goal.loop-preserved
loop-preserved c =
    let a = c.args in
    goes_further a.link (filler a.room) a.b a.r a.piece.now a.out.now c.loop-test.true c.loop.invariant c.call.ensures

pub returns : goal.returns
returns c =
    let a = c.args in
    goes_done a.link (filler a.room) a.b a.r a.piece.now a.out.now c.loop-test.false c.loop.invariant c.call.ensures
