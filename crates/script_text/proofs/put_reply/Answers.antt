-- `put_reply` puts its three parts one behind the other.
use Rattle.script_text.specs.Texts.{reply_text}
use Rattle.script_text.proofs.Puts.{puts_then}
use Rattle.script_text.proofs.put_reply.Goals as goal

pub returns : goal.returns
unfolding reply_text
returns c =
    puts_then (puts_then c.put_placed-a.ensures c.put_bytes_text-b.ensures) c.put_spoiled.ensures
