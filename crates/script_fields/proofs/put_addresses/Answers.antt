-- `put_addresses` puts the form of the five addresses.
use mathlib.Core.List.{[], ◌∷◌}
use mathlib.Core.Path.{refl}
use Rattle.laws.specs.Bytes.{ascii}
use Rattle.script_fields.specs.Fields.{addresses_text}
use Rattle.script_text.proofs.Puts.{puts_as}
use Rattle.script_forms.proofs.Forms.{forms}
use Rattle.script_fields.proofs.put_addresses.Goals as goal

pub returns : goal.returns
unfolding addresses_text
returns c = puts_as (forms [] (ascii " ip " ∷ ascii " accepted " ∷ ascii " " ∷ ascii " " ∷ ascii " " ∷ []) _ refl refl) c.put_numbers.ensures
