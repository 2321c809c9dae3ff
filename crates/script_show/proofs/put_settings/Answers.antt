use mathlib.Core.List.{◌∷◌}
use Prim.Native.Nat.{◌+◌}
use lib.ListN.{get_or, drop}
use native.Mathlib.Omega.{arith}
use Rattle.vmc.specs.Orders.{says_of}
use Rattle.vmc_tells.specs.Texts.{text_of}
use Rattle.vmc_asks.specs.declared.Order.TheVariants.{Get}
use Rattle.script_text.proofs.Puts.{under_first, under_next, under_none}
use Rattle.script_show.specs.Shown.{shown_names, settings_text}
use Rattle.script_show.proofs.Lines.{settings_from, settings_behind}
use Rattle.script_show.proofs.put_settings.Goals as goal

pub loop-k-init : goal.loop-k-init
loop-k-init c = under_first (settings_text c.args.w shown_names) c.args.out.now c.args.at

pub loop-k-preserved : goal.loop-k-preserved
loop-k-preserved c =
    let w = c.args.w in
    let i = c.loop-k.k-index in
    under_next (0x20 ∷ text_of (says_of (Get (get_or shown_names i 0)) w)) (settings_text w (drop (i + 1) shown_names)) c.loop-k.invariant (settings_from w shown_names i c.loop-k-test.true) c.put_setting-to.ensures

pub returns : goal.returns
returns c = under_none c.loop-k.invariant (settings_behind c.args.w shown_names c.loop-k.k-index (omega arith))
