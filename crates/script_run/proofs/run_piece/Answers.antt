-- `run_piece` ends for want of room or at the end of the piece, and each line moves on.
use borrow.Author.Rules.{rules}
use native.Mathlib.Omega.{arith}
use mathlib.Core.Path.{◌≡◌}
use lib.ListN.{length}
use Rattle.script_run.proofs.Going.{going_first, going_full, going_end}
use Rattle.script_run.proofs.Steps.{line_moves, line_on}
use Rattle.script_run.proofs.run_piece.Goals as goal

pub loop-p-init : goal.loop-p-init
loop-p-init c = going_first _ _ _ _ _ _ c.line_length.ensures

pub returns-then-area-p-lt-ROOM : goal.returns-then-area-p-lt-ROOM
returns-then-area-p-lt-ROOM c =
    let l = c.loop-p in
    let h = c.if-area-p-lt-ROOM.true in
    going_full _ _ _ _ _ l.p l.store l.area l.invariant (omega (arith, h))

pub loop-p-smaller : goal.loop-p-smaller
loop-p-smaller c =
    let h = c.loop-p-test.true in
    let m = line_moves c.run_line-p.ensures h in
    omega (arith, h, m)

pub loop-p-preserved : goal.loop-p-preserved
loop-p-preserved c =
    let l = c.loop-p in
    let store : length c.args.store.now ≡ 4097 = search rules in
    let room = c.if-area-p-lt-ROOM.false in
    let fits = l.invariant.fits in
    line_on _ _ _ _ _ store l.p _ l.store l.area _ _ l.invariant c.loop-p-test.true (omega (arith, room, fits)) c.run_line-p.ensures

pub returns : goal.returns
returns c =
    let l = c.loop-p in
    let h = c.loop-p-test.false in
    going_end _ _ _ _ _ l.p l.store l.area l.invariant (omega (arith, h))
