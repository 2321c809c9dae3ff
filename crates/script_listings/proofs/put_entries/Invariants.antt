-- `put_entries` puts one entry a turn: what is put, and the entries from i on, are all of them.
use Rattle.script_text.proofs.Puts.{Underway}
use Rattle.script_listings.proofs.Entries.{entries_from}
use Rattle.script_listings.proofs.put_entries.Given as goal

abbrev pub invariant-loop-i : goal.invariant-loop-i
invariant-loop-i l = Underway (entries_from l.l.count l.l.starts l.l.lengths 0) (entries_from l.l.count l.l.starts l.l.lengths l.i) l.initial.out l.at l.out l.to
