use mathlib.Core.Path.{◌≡◌, subst}
use native.Mathlib.Omega.{arith}
use Rattle.decimals.proofs.Taken.{Taking, taking_none, taking_all, turned}
use Rattle.decimals.proofs.ten_digits.Goals as goal

pub loop-n-init : goal.loop-n-init
loop-n-init c = taking_none c.args.v c.args.from c.requires.from_bound c.requires.v_bound

pub loop-n-preserved : goal.loop-n-preserved
loop-n-preserved c = (turned c.loop-n.invariant c.loop-n-test.true c.comes_off-once.ensures).next

pub returns : goal.returns
returns c =
    let l = c in
    let t = l.loop-n.invariant in
    let e : l.loop-n.n ≡ 10 = omega arith in
    taking_all (subst (Taking l.args.v l.loop-n.d l.loop-n.rest) e t)
