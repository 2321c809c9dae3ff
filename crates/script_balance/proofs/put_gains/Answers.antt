-- `put_gains` puts the form of the three gains.
use mathlib.Core.List.{[], ◌∷◌}
use mathlib.Core.Path.{refl}
use Rattle.laws.specs.Bytes.{ascii}
use Rattle.script_forms.proofs.Forms.{forms}
use Rattle.script_text.proofs.Puts.{puts_as}
use Rattle.script_balance.specs.Balance.{gains_text}
use Rattle.script_balance.proofs.put_gains.Goals as goal

pub returns : goal.returns
unfolding gains_text
returns c = puts_as (forms [] (ascii " GAIN " ∷ ascii " " ∷ ascii " " ∷ []) _ refl refl) c.put_numbers.ensures
