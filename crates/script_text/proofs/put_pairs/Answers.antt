use mathlib.Core.Path.{sym, ◌∙◌}
use mathlib.Core.List.{[], ◌∷◌}
use Prim.Native.Nat.{◌+◌}
use lib.ListN.{drop}
use native.Mathlib.Omega.{arith}
use Rattle.script_text.specs.Texts.{pairs}
use Rattle.script_text.proofs.Puts.{under_first, under_next, under_none}
use Rattle.script_text.proofs.Texts.{pairs_from, pairs_behind}
use Rattle.script_text.proofs.put_pairs.Goals as goal

pub loop-b-init : goal.loop-b-init
loop-b-init c = under_first (pairs c.args.bytes.now) c.args.out.now c.args.at

pub loop-b-preserved : goal.loop-b-preserved
loop-b-preserved c =
    let s = c.args.bytes.now in
    let i = c.loop-b.b-index in
    under_next (c.glyph_of.result ∷ c.glyph_of-in-loop-b.result ∷ []) (pairs (drop (i + 1) s)) c.loop-b.invariant (pairs_from s i c.loop-b-test.true ∙ sym (rw (c.glyph_of.ensures, c.glyph_of-in-loop-b.ensures))) c.put-to.ensures

pub returns : goal.returns
returns c =
    under_none c.loop-b.invariant (pairs_behind c.args.bytes.now c.loop-b.b-index (omega arith))
