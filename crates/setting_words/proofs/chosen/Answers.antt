-- `chosen` asks the setting's own words in turn.
use mathlib.Core.Path.{refl}
use lib.ListN.{length}
use Rattle.std.proofs.Common.{rules, arith, ◌∙◌}
use Rattle.std.proofs.lemmas.Iterator.{YieldsList-from_range}
use Rattle.std.proofs.lemmas.Iterator.Search.{position_from_yields_List}
use Rattle.setting_texts.specs.Names.{words_of}
use Rattle.setting_words.proofs.Found.{is_word, first_word}
use Rattle.setting_words.proofs.chosen.Goals as goal

pub returns : goal.returns
returns c =
    let words = length (words_of c.args.k) in
    let e = c.word_count.ensures in
    position_from_yields_List (is_word c.args.k c.args.s.now) _ _ _ c.position.ensures.ran (YieldsList-from_range 0 c.word_count.result words refl (omega arith)) (λ x b q k. search rules) ∙ first_word c.args.k c.args.s.now
