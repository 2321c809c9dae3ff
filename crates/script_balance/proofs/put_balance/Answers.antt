-- `put_balance` puts the gains, and the biases behind them.
use Rattle.script_balance.specs.Balance.{balance_text}
use Rattle.script_text.proofs.Puts.{puts_then}
use Rattle.script_balance.proofs.put_balance.Goals as goal

pub returns : goal.returns
unfolding balance_text
returns c =
    puts_then c.put_gains-to.ensures c.put_biases.ensures
