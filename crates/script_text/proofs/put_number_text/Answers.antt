-- `put_number_text` puts the word, and what stands behind it.
use Rattle.script_text.specs.Texts.{number_text}
use Rattle.script_text.proofs.Puts.{puts_then}
use Rattle.script_text.proofs.put_number_text.Goals as goal

pub returns : goal.returns
unfolding number_text
returns c = puts_then c.put-to.ensures c.put_number.ensures
