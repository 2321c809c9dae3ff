-- `put_bytes_text` puts the word, and what stands behind it.
use Rattle.script_text.specs.Texts.{bytes_text}
use Rattle.script_text.proofs.Puts.{puts_then}
use Rattle.script_text.proofs.put_bytes_text.Goals as goal

pub returns : goal.returns
unfolding bytes_text
returns c = puts_then c.put-to.ensures c.put_hex.ensures
