-- `spell_choice` hands on the word of the choice.
use mathlib.Core.Path.{ap, ◌∙◌}
use mathlib.Core.List.{List, ◌++◌}
use Prim.Native.Nat.{ℕ}
use Rattle.setting_texts.specs.Names.{lead_of}
use Rattle.setting_texts.proofs.Sizes.{short_word_lem}
use Rattle.vmc_tells.specs.Phrases.{textual}
use Rattle.vmc_tells.proofs.spell_choice.Goals as goal

pub phrase-requires : goal.phrase-requires
phrase-requires c = rw c.word.ensures (short_word_lem c.args.k c.args.v)

pub returns : goal.returns
returns c = c.phrase.ensures ∙ ap (λ (d : List ℕ). textual (lead_of c.args.k ++ d)) c.word.ensures
