-- `link_piece` puts behind the packets' texts how many bytes the receiver keeps.
use native.Mathlib.Omega.{arith}
use Rattle.script_answers.specs.Answers.{filler}
use Rattle.script_receivers.proofs.Feeding.{holds_few, held_said}
use Rattle.script_receivers.proofs.link_piece.Goals as goal

pub overflow_cast-f : goal.overflow_cast-f
overflow_cast-f c =
    let a = c.args in
    let h = holds_few a.link (filler a.room) a.b a.r a.piece.now a.out.now c.feed-f.ensures in
    omega (arith, h)

pub returns : goal.returns
returns c =
    let a = c.args in
    held_said a.link (filler a.room) a.b a.r a.piece.now a.out.now c.feed-f.ensures c.put_number_text-at.ensures c.put-len.ensures
