-- `put_on` puts the code of one connector a turn: what is put, and the connectors from i on, are all of them.
use lib.ListN.{drop}
use Rattle.panels.specs.Records.{connectors}
use Rattle.script_text.proofs.Puts.{Underway}
use Rattle.script_parts.specs.Parts.{on_text}
use Rattle.script_parts.proofs.put_on.Given as goal

abbrev pub invariant-loop-i : goal.invariant-loop-i
invariant-loop-i l = Underway (on_text connectors l.on) (on_text (drop l.i connectors) (drop l.i l.on)) l.initial.out l.at l.out l.to
