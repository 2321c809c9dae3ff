-- `begins` asks the first byte alone, and the six bytes only where that is 03h.
use Rattle.receiver.proofs.Front.{other_first}
use Rattle.receiver.proofs.begins.Goals as goal

pub returns-else-s-eq3 : goal.returns-else-s-eq3
returns-else-s-eq3 c = other_first c.args.s.now c.requires c.if-s-eq3.false
