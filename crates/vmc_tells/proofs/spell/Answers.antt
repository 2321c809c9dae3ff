-- `spell` goes by what is told.
use mathlib.Core.Path.{◌≡◌, ap, ◌∙◌}
use lib.IntN.{ℤ}
use mathlib.Core.List.{◌++◌}
use mir.Syntax.{w8}
use mir.Val.{to_z, of_z}
use borrow.Author.Rules.{rules}
use Rattle.decimals.specs.Texts.{text}
use Rattle.setting_texts.specs.Names.{lead_of}
use Rattle.vmc_tells.specs.Phrases.{textual}
use Rattle.vmc_tells.specs.Texts.{shift_words, move_words, text_of}
use Rattle.vmc_tells.proofs.spell.Goals as goal

pub returns-in-Bare : goal.returns-in-Bare
unfolding text_of text
returns-in-Bare c = rw c.in-Bare.is

pub returns-in-Value : goal.returns-in-Value
unfolding text_of
returns-in-Value c = rw c.in-Value.is c.spell_value.ensures

pub returns-in-Offset : goal.returns-in-Offset
unfolding text_of move_words
returns-in-Offset c =
    let z = c.in-Offset.z in
    let e : to_z w8 (of_z w8 z) ≡ z = search rules in
    rw c.in-Offset.is (c.spell_shift.ensures ∙ ap (λ (y : ℤ). textual (lead_of c.in-Offset.k ++ shift_words y)) e)
