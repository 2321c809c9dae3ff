-- `number4_at` weighs the bytes that stand at its place.
use Rattle.std.proofs.Common.{◌∙◌, length, ap}
use Rattle.laws.specs.Numbers.{number}
use Rattle.laws.proofs.Lists.{part_length}
use Rattle.sdap.proofs.Numbers.{read_4}
use Rattle.sdap_read.proofs.number4_at.Goals as goal

pub returns : goal.returns
returns c =
    let e = c.bytes_at.ensures in
    c.from_be_bytes.ensures ∙ read_4 c.bytes_at.result (ap length e ∙ part_length c.args.at 4 c.args.s.now c.requires) ∙ ap number e
