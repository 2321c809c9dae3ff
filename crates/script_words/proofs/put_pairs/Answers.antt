use mathlib.Core.Path.{◌∙◌, ◌≡◌, sym}
use native.Mathlib.Omega.{arith}
use Prim.Native.Nat.{◌/◌}
use lib.ListN.{length}
use Rattle.script_words.specs.Words.{bytes_in}
use Rattle.script_words.proofs.Areas.{front_more, front_whole}
use Rattle.script_words.proofs.Hex.{pair_at_lem, pairs_length}
use Rattle.script_words.proofs.put_pairs.Goals as goal

pub loop-i-preserved : goal.loop-i-preserved
loop-i-preserved c =
    let a = c.args in
    let i = c.loop-i.i in
    let p = pairs_length a.w.now in
    front_more a.area.now (bytes_in a.w.now) i _ _ (omega arith) (omega arith) (sym (pair_at_lem a.w.now i (omega arith) ∙ rw (← c.hex_value.ensures.0, ← c.hex_value-in-loop-i.ensures.0))) c.loop-i.invariant

pub returns : goal.returns
returns c =
    let a = c.args in
    let p = pairs_length a.w.now in
    let q : c.loop-i.i ≡ length a.w.now / 2 = omega arith in
    rw (← q) (front_whole a.area.now (bytes_in a.w.now) c.loop-i.i c.loop-i.area (omega arith) c.loop-i.invariant)
