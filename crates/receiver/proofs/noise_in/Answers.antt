use native.Mathlib.Omega.{arith}
use mathlib.Core.Path.{◌≡◌, sym, ◌∙◌}
use lib.ListN.{length}
use Rattle.laws.proofs.Lists.{rest}
use Rattle.receiver.proofs.Search.{search_found, search_turn, search_ended}
use Rattle.receiver.proofs.noise_in.Goals as goal

pub returns-then-begins : goal.returns-then-begins
returns-then-begins c =
    let l = c.loop-j in
    search_found c.args.s.now _ l.j l.invariant (rest c.args.s.now l.j) (sym c.begins.ensures ∙ c.if-begins.true)

pub loop-j-preserved : goal.loop-j-preserved
loop-j-preserved c =
    let l = c.loop-j in
    search_turn c.args.s.now _ l.j l.invariant (rest c.args.s.now l.j) c.loop-j-test.true (sym c.begins.ensures ∙ c.if-begins.false)

pub returns : goal.returns
returns c =
    let l = c.loop-j in
    let q : l.j ≡ length c.args.s.now = omega arith in
    search_ended c.args.s.now (rw q at l.invariant)
