-- `is_ours` compares the front.
use mathlib.Core.Path.{◌∙◌}
use Rattle.laws.proofs.Library.{begins_starts}
use Rattle.sdcp_asks.specs.Asks.{front, is_ours}
use Rattle.sdcp_asks.proofs.is_ours.Goals as goal

pub returns : goal.returns
unfolding is_ours
returns c = c.starts_with.ensures.value ∙ begins_starts front c.args.m.now
