-- `number2` is the library's reading.
use Rattle.std.proofs.Common.{◌∙◌}
use Rattle.laws.proofs.Library.{number_two}
use Rattle.octets.proofs.number2.Goals as goal

pub returns : goal.returns
returns c = c.from_be_bytes.ensures ∙ number_two c.args.high c.args.low
