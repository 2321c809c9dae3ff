-- Each promise at the door allows one outcome: its equations have the same right sides.
use mathlib.Core.Path.{◌≡◌, sym, ◌∙◌}
use Rattle.vmc_tells.specs.Phrases.{spelled}
use Rattle.decimals.specs.declared.Text.{Text}
use Rattle.vmc_tells.specs.declared.Says.{Says}

pub spell_one : (t : Says) (r r' : Text 20) → r ≡ spelled t → r' ≡ spelled t → r ≡ r'
spell_one t r r' p q = p ∙ sym q
