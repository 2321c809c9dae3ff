-- `feed` calls the receiver with what is left of the piece, until a call hands out nothing.
use Rattle.script_answers.specs.Answers.{filler}
use Rattle.script_receivers.proofs.Feeding.{Goes, to_read}
use Rattle.script_receivers.proofs.feed.Given as goal

abbrev pub invariant-loop : goal.invariant-loop
invariant-loop l = Goes l.link (filler l.room) l.initial.f.made l.initial.f.receiver l.piece l.initial.out l.f l.out

abbrev pub decreases-loop : goal.decreases-loop
decreases-loop l = to_read l.piece l.f
