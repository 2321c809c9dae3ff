-- `read_plain` is the rule between packets from place 0 on, with no entries yet.
use Rattle.reader.specs.Plain.{plain, no_entries}
use Rattle.reader.proofs.read_plain.Goals as goal

pub returns : goal.returns
unfolding plain no_entries
returns c = c.between_packets.ensures
