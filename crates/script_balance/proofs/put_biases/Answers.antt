-- `put_biases` puts the three biases one behind the other.
use Rattle.std.proofs.Common.{rules}
use Rattle.laws.specs.Bytes.{ascii}
use Rattle.script_balance.specs.Balance.{biases_text}
use Rattle.script_text.proofs.Puts.{puts_then}
use Rattle.script_balance.proofs.Lines.{held_bias}
use Rattle.script_balance.proofs.put_biases.Goals as goal

pub returns : goal.returns
unfolding biases_text
returns c =
    puts_then (puts_then (held_bias (ascii " BIAS ") (search rules) c.put_bias-a.ensures) (held_bias (ascii " ") (search rules) c.put_bias-b.ensures)) (held_bias (ascii " ") (search rules) c.put_bias.ensures)
