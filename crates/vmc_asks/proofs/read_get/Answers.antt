-- `read_get` goes by the name that was found.
use mathlib.Core.Path.{sym, ap, ◌∙◌}
use Rattle.vmc_asks.specs.Asks.{get_order, read_get}
use Rattle.vmc_asks.proofs.read_get.Goals as goal

pub returns-in_err-k : goal.returns-in_err-k
unfolding read_get
returns-in_err-k c = c.from_residual.ensures ∙ ap get_order (sym c.in_err-k.was ∙ c.named.ensures)

pub returns : goal.returns
unfolding read_get
returns c = ap get_order (sym c.in_ok-k.was ∙ c.named.ensures)
