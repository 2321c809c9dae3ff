use mathlib.Core.Path.{sym, ap, ◌∙◌}
use mathlib.Core.List.{[], ◌∷◌}
use Prim.Native.Nat.{ℕ, ◌-◌}
use native.Mathlib.Omega.{arith}
use Rattle.decimals.specs.Decimals.{in_digits}
use Rattle.decimals.specs.Plain.{plain}
use Rattle.script_text.proofs.Puts.{under_first, under_next, under_none}
use Rattle.script_text.proofs.Texts.{digit_first, digits_none}
use Rattle.script_text.proofs.put_number.Goals as goal

pub loop-left-init : goal.loop-left-init
unfolding plain
loop-left-init c =
    let a = c.args in
    rw c.width_of-left.ensures (under_first (plain a.v) a.out.now a.at)

pub loop-left-preserved : goal.loop-left-preserved
loop-left-preserved c =
    let v = c.args.v in
    let n = c.loop-left.left in
    under_next (c.digit_at.result ∷ []) (in_digits (n - 1) v) c.loop-left.invariant (digit_first n v c.loop-left-test.true ∙ ap (λ (x : ℕ). x ∷ in_digits (n - 1) v) (sym c.digit_at.ensures)) c.put-to.ensures

pub returns : goal.returns
returns c =
    under_none c.loop-left.invariant (digits_none c.loop-left.left c.args.v (omega arith))
