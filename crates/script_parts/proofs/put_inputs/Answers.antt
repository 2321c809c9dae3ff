-- `put_inputs` puts its four parts one behind the other.
use Rattle.script_parts.specs.Parts.{inputs_text}
use Rattle.script_text.proofs.Puts.{puts_then}
use Rattle.script_parts.proofs.put_inputs.Goals as goal

pub returns : goal.returns
unfolding inputs_text
returns c =
    puts_then (puts_then (puts_then c.put_number_text-a.ensures c.put-b.ensures) c.put_on-c.ensures) c.put_number_text.ensures
