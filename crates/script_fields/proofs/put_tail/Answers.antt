-- `put_tail` puts its five fields one behind the other.
use mathlib.Core.List.{[], ◌∷◌}
use mathlib.Core.Path.{refl}
use Rattle.laws.specs.Bytes.{ascii}
use Rattle.script_fields.specs.Fields.{tail_text}
use Rattle.script_text.proofs.Puts.{puts_then}
use Rattle.script_forms.proofs.Forms.{puts_forms}
use Rattle.script_fields.proofs.put_tail.Goals as goal

pub returns : goal.returns
unfolding tail_text
returns c =
    puts_forms (ascii " group " ∷ ascii " unit " ∷ []) _ (puts_then (puts_then c.put_number_text-b.ensures c.put_bytes_text-c.ensures) c.put_bytes_text-d.ensures) c.put_numbers.ensures refl refl
