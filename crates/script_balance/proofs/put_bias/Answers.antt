-- `put_bias` puts the word, and the bias behind it.
use mir.Facts.{to_z-of_z}
use Rattle.script_balance.specs.Balance.{bias_text}
use Rattle.script_text.proofs.Puts.{puts_then}
use Rattle.script_balance.proofs.put_bias.Goals as goal

pub returns : goal.returns
unfolding bias_text
returns c =
    puts_then c.put-to.ensures (rw (to_z-of_z c.ranges.z) at c.put_signed.ensures)
