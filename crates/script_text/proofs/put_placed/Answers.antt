-- `put_placed` puts the number, and the place behind it.
use Rattle.script_text.specs.Texts.{placed_text}
use Rattle.script_text.proofs.Puts.{puts_then}
use Rattle.script_text.proofs.put_placed.Goals as goal

pub returns : goal.returns
unfolding placed_text
returns c = puts_then c.put_number_text-to.ensures c.put_place.ensures
