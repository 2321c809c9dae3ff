use native.Mathlib.Omega.{arith}
use mathlib.Core.Path.{◌≡◌, sym, ◌∙◌}
use lib.ListN.{length, length-append}
use Rattle.receiver.specs.Both.{both}
use Rattle.receiver.proofs.Stream.{noise_le}
use Rattle.receiver.proofs.Search.{search_found, search_turn, search_piece}
use Rattle.receiver.proofs.Unread.noise.Goals as goal

pub returns-then-begins : goal.returns-then-begins
returns-then-begins c =
    let l = c.loop-j in
    search_found (both c.args.self) _ l.j l.invariant c.behind.ensures.both (sym c.begins.ensures ∙ c.if-begins.true)

pub loop-j-preserved : goal.loop-j-preserved
loop-j-preserved c =
    let l = c.loop-j in
    let s = c.args.self in
    search_turn (both s) _ l.j l.invariant c.behind.ensures.both (omega (arith, length-append s.held.now s.piece.now)) (sym c.begins.ensures ∙ c.if-begins.false)

pub overflow_add-result : goal.overflow_add-result
overflow_add-result c = omega (arith, c.noise_in.ensures, noise_le c.args.self.piece.now, c.well_formed)

pub returns : goal.returns
returns c =
    let l = c.loop-j in
    let s = c.args.self in
    let q : l.j ≡ length s.held.now = omega arith in
    search_piece s.held.now s.piece.now c.noise_in.result c.noise_in.ensures (rw q at l.invariant)
