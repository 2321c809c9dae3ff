-- `answer_write` lends as much of its array as the line asks for; that much is A5h throughout.
use Rattle.script_words.proofs.Laws.{number_most}
use Rattle.script_write.proofs.Lent.{throughout, throughout_length}
use Rattle.script_bytes.proofs.answer_write.Goals as goal

pub slice_bounds-area-end : goal.slice_bounds-area-end
slice_bounds-area-end c = rw c.number_at-room.ensures (number_most 1024 1 _)

pub slice_bounds-write_in-end : goal.slice_bounds-write_in-end
slice_bounds-write_in-end c =
    let n = c.number_at-room in
    throughout_length n.result 1024 165 (rw n.ensures (number_most 1024 1 _))

pub returns : goal.returns
returns c =
    let n = c.number_at-room in
    let e = throughout n.result 1024 165 (rw n.ensures (number_most 1024 1 _)) in
    rw (← n.ensures, ← e) c.write_in.ensures
