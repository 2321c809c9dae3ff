-- `phrase` lays the name and the value one behind the other over zeros.
use mathlib.Core.Path.{refl, ap, ◌∙◌}
use Prim.Native.Nat.{◌+◌, ◌≤◌}
use lib.ListN.{length, replicate}
use native.Mathlib.Omega.{arith}
use Rattle.laws.specs.Bytes.{laid}
use Rattle.setting_texts.specs.Names.{lead_of}
use Rattle.setting_texts.proofs.Sizes.{short_lead_lem}
use Rattle.vmc_tells.proofs.Phrases.{two_parts}
use Rattle.vmc_tells.proofs.phrase.Goals as goal

pub returns : goal.returns
returns c =
    let a = c.args in
    let s = short_lead_lem a.k in
    let h : length (lead_of a.k) + length a.value.now ≤ 20 = omega arith in
    two_parts c.lay.new.out c.lay-2.new.out (lead_of a.k) a.value.now (length c.lead-name.result.now)
    (length a.value.now) (c.lay.ensures ∙ ap (laid (replicate 20 0) 0) c.lead-name.ensures) c.lay-2.ensures (ap length c.lead-name.ensures) refl h
