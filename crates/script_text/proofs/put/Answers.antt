-- `put` copies what there is room for: where the area has ended, nothing.
use native.Mathlib.Omega.{arith}
use Rattle.script_text.proofs.Puts.{puts_front, puts_outside}
use Rattle.script_text.proofs.put.Goals as goal

pub returns-then-out-at : goal.returns-then-out-at
returns-then-out-at c = puts_outside c.args.text.now c.args.out.now c.args.at c.if-out-at.true

pub returns : goal.returns
returns c = puts_front c.if-out-at.false c.min.ensures (omega arith) (omega arith) c.copy_from_slice.ensures.after
