use Prim.Native.Nat.{◌<◌}
use mathlib.Core.Path.{◌≡◌, refl, sym, subst, ◌∙◌}
use lib.ListN.{length, length-set}
use borrow.Author.Rules.{rules}
use native.Mathlib.Omega.{arith}
use Rattle.box_rules.specs.Pairs.{gathered}
use Rattle.box_rules.proofs.Distinct.{gather}
use Rattle.box_rules.proofs.Ring.{rings_none, rings_set}
use Rattle.box_rules.proofs.look_through.Goals as goal

pub loop-i-init : goal.loop-i-init
loop-i-init c = (refl, (refl, (refl, rings_none)))

pub loop-i-preserved : goal.loop-i-preserved
loop-i-preserved c =
    let ps = c.args.ps in
    let i = c.loop-i.i in
    let v = c.loop-i.invariant in
    let eight : i < 8 = omega arith in
    let h : i < length ps = search rules in
    let laid = rings_set c.loop-i.ids c.loop-i.ring i c.pair_at-pair.result c.called_by-d.result v.1.1.1 v.0 v.1.0 eight c.pair_at-pair.ensures in
    (simp length-set v.0, (simp length-set v.1.0, (rw (v.1.1.0, c.called_by-d.ensures) (gather ps i eight h), laid)))

pub returns : goal.returns
returns c =
    let v = c.loop-i.invariant in
    let whole : c.loop-i.i ≡ c.args.n = omega arith in
    record {
      good = sym c.all_good.ensures ∙ c.if-not-all_good.false;
      ids_are = subst (λ n. c.loop-i.ids ≡ gathered c.args.ps n) whole v.1.1.0;
      eight = v.0;
      rings = v.1.1.1;
    }
