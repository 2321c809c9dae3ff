-- `is_listed` is the library's test.
use Rattle.std.proofs.Common.{◌∙◌}
use Rattle.laws.proofs.Library.{listed_any}
use Rattle.octets.proofs.is_listed.Goals as goal

pub returns : goal.returns
returns c = c.contains.ensures.value ∙ listed_any c.args.numbers.now c.args.x
