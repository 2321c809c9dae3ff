use Prim.Native.Nat.{suc}
use mathlib.Core.Path.{◌∙◌, ap}
use native.Mathlib.Omega.{arith}
use borrow.Author.Rules.{rules}
use Rattle.laws.proofs.Lists.{behind}
use Rattle.script_words.proofs.Words.{spaces, spaces_here, spaces_other, words_count}
use Rattle.script_words.proofs.spaces_in.Goals as goal
use Rattle.script_words.proofs.spaces_in.Goals.{else-line-i-eq32, then-line-i-eq32}

pub loop-i-preserved : goal.loop-i-preserved
loop-i-preserved c =
    let s = c.args.line.now in
    elim c.if-line-i-eq32.branch [ then-line-i-eq32 w ↦ let e = spaces_here s c.loop-i.i c.loop-i-test.true w.if-line-i-eq32.true in search rules | else-line-i-eq32 w ↦ let e = spaces_other s c.loop-i.i c.loop-i-test.true w.if-line-i-eq32.false in search rules ]

pub returns : goal.returns
returns c =
    let e = ap spaces (behind c.args.line.now c.loop-i.i (omega arith)) in
    let h = c.loop-i.invariant in
    ap suc (omega arith) ∙ words_count c.args.line.now
