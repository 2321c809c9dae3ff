-- `put_advert` puts its three parts one behind the other.
use Rattle.script_fields.specs.Fields.{advert_text}
use Rattle.script_text.proofs.Puts.{puts_then}
use Rattle.script_fields.proofs.put_advert.Goals as goal

pub returns : goal.returns
unfolding advert_text
returns c =
    puts_then (puts_then c.put_head-b.ensures c.put_addresses-c.ensures) c.put_tail.ensures
