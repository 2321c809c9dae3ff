-- A length of 0 is what a call that hands out nothing gives, and no packet has it.
use mathlib.Core.Path.{ap, ◌∙◌}
use lib.ListN.{length}
use Rattle.receiver.specs.Stream.{counted}
use Rattle.receiver.specs.Calls.{given}
use Rattle.receiver.proofs.Stream.{counted_back}
use Rattle.host.proofs.box_receive.Goals as goal

pub returns : goal.returns
returns c =
    let t = c.take_piece-t in
    record {
      after_is = t.ensures.after_is;
      taken_is = t.ensures.taken_is;
      len_is = ap counted c.unwrap_or.ensures ∙ counted_back t.result.len (length (given c.args.r.now c.args.piece.now).packet) t.ensures.len_is;
      area_is = t.ensures.area_is;
    }
