-- `spell_value` goes by the kind of setting.
use mathlib.Core.Path.{sym, ◌∙◌}
use borrow.Author.Tests.{lt-ltb, le-ltb}
use Rattle.vmc_tells.specs.Texts.{value_words, set_words}
use Rattle.vmc_tells.proofs.spell_value.Goals as goal

pub returns-then-k-lt-LEVEL_COUNT : goal.returns-then-k-lt-LEVEL_COUNT
unfolding set_words value_words
returns-then-k-lt-LEVEL_COUNT c = c.spell_level.ensures ∙ sym (rw (lt-ltb _ _ c.if-k-lt-LEVEL_COUNT.true))

pub returns : goal.returns
unfolding set_words value_words
returns c = c.spell_choice.ensures ∙ sym (rw (le-ltb _ _ c.if-k-lt-LEVEL_COUNT.false))
