-- `led` asks the names in turn, each with what parts it from its value.
use mathlib.Core.Path.{refl}
use Rattle.std.proofs.Common.{rules, ◌∙◌}
use Rattle.std.proofs.lemmas.Iterator.{YieldsList-from_range}
use Rattle.std.proofs.lemmas.Iterator.Search.{position_from_yields_List}
use Rattle.setting_words.proofs.Found.{is_led, first_led}
use Rattle.setting_words.proofs.led.Goals as goal

pub returns : goal.returns
returns c = position_from_yields_List (is_led c.args.s.now) _ _ _ c.position.ensures.ran (YieldsList-from_range 0 _ 23 refl refl) (λ x b q k. search rules) ∙ first_led c.args.s.now
