-- `present` tells the setting's value, or the shift.
use mathlib.Core.Path.{◌≡◌, sym, ap, ◌∙◌}
use lib.ListN.{get_or}
use lib.IntN.{pos}
use borrow.Author.Tests.{lt-ltb, le-ltb}
use borrow.Author.Rules.{rules}
use native.Mathlib.Omega.{arith}
use mir.Syntax.{w8}
use mir.Val.{to_z, of_z}
use Prim.Native.Nat.{◌-◌}
use Rattle.std.proofs.lemmas.Grind.{common_steps}
use Rattle.std.proofs.lemmas.Option.{gets}
use Rattle.settings.specs.Table.{setting_count}
use Rattle.vmc.specs.Orders.{says_of}
use Rattle.vmc_tells.specs.declared.Says.TheVariants.{Value, Offset}
use Rattle.vmc.proofs.present.Goals as goal

pub returns-then-k-lt-SETTING_COUNT : goal.returns-then-k-lt-SETTING_COUNT
unfolding says_of
returns-then-k-lt-SETTING_COUNT c = ap (Value c.args.k) c.value_at.ensures ∙ sym (rw (lt-ltb _ _ c.if-k-lt-SETTING_COUNT.true))

pub returns : goal.returns
unfolding says_of
returns c =
    let z = c.unwrap_or.result in
    let q : to_z w8 (of_z w8 z) ≡ z = search rules in
    let e : z ≡ get_or c.args.w.shifts (c.args.k - setting_count) (pos 0) = grind (arith, common_steps, gets) in
    rw (le-ltb _ _ c.if-k-lt-SETTING_COUNT.false) (ap (Offset c.args.k) (q ∙ e))
