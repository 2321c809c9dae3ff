-- The piece lies behind the bytes held.
use mathlib.Core.Path.{refl}
use native.Mathlib.Omega.{arith}
use lib.ListN.{length-append}
use Rattle.receiver.proofs.Parts.{laid_both}
use Rattle.receiver.proofs.Unread.lay.Goals as goal

pub returns : goal.returns
returns c =
    let s = c.args.self in
    laid_both c.args.area.now s.held.now s.piece.now c.lay.new.out c.lay-2.new.out _ refl (omega (arith, c.requires, length-append s.held.now s.piece.now)) c.lay.ensures c.lay-2.ensures
