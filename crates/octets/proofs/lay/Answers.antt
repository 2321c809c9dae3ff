use Prim.Native.Nat.{◌+◌, ◌≤◌}
use mathlib.Core.Path.{sym, ◌∙◌}
use lib.ListN.{length, length-set}
use borrow.Author.Rules.{rules}
use native.Mathlib.Omega.{arith}
use Rattle.laws.proofs.Areas.{laid_fits, laid_short, paste_more, paste_whole}
use Rattle.octets.proofs.lay.Goals as goal

pub returns-then-out-bytes : goal.returns-then-out-bytes
returns-then-out-bytes c =
    let a = c.args in
    sym (laid_short a.out.now a.at a.bytes.now (omega arith))

pub returns-then-out-bytes-2 : goal.returns-then-out-bytes-2
returns-then-out-bytes-2 c =
    let a = c.args in
    sym (laid_short a.out.now a.at a.bytes.now (omega arith))

pub loop-i-preserved : goal.loop-i-preserved
loop-i-preserved c =
    let l = c in
    (search rules, (simp length-set l.loop-i.invariant.1.0, paste_more _ _ _ l.loop-i.i _ (omega arith) c.loop-i-test.true l.loop-i.invariant.1.1))

pub returns : goal.returns
returns c =
    let l = c in
    let a = l.args in
    let h : length a.bytes.now ≤ l.loop-i.i = omega arith in
    let room : a.at + length a.bytes.now ≤ length a.out.now = omega arith in
    paste_whole a.out.now a.at a.bytes.now l.loop-i.i _ (omega arith) h l.loop-i.invariant.1.1 ∙ sym (laid_fits a.out.now a.at a.bytes.now room)
