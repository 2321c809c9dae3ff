-- `spell_level` hands on the digits of the level.
use mathlib.Core.Path.{ap, ◌∙◌}
use mathlib.Core.List.{List, ◌++◌}
use Prim.Native.Nat.{ℕ}
use Rattle.decimals.proofs.Texts.{numeral_slice}
use Rattle.setting_texts.specs.Names.{lead_of}
use Rattle.vmc_tells.specs.Phrases.{textual}
use Rattle.vmc_tells.proofs.spell_level.Goals as goal

pub returns : goal.returns
returns c =
    c.phrase.ensures
    ∙ ap (λ (d : List ℕ). textual (lead_of c.args.k ++ d)) (c.as_slice.ensures ∙ numeral_slice c.numeral_of.result c.args.v c.numeral_of.ensures)
