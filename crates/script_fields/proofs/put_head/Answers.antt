-- `put_head` puts its five fields one behind the other.
use mathlib.Core.List.{[], ◌∷◌}
use mathlib.Core.Path.{refl}
use Rattle.laws.specs.Bytes.{ascii}
use Rattle.script_fields.specs.Fields.{head_text}
use Rattle.script_text.proofs.Puts.{puts_then}
use Rattle.script_forms.proofs.Forms.{puts_forms}
use Rattle.script_fields.proofs.put_head.Goals as goal

pub returns : goal.returns
unfolding head_text
returns c =
    puts_then (puts_forms (ascii " serial " ∷ ascii " power " ∷ []) _ (puts_then c.put_number_text-b.ensures c.put_bytes_text-c.ensures) c.put_numbers-d.ensures refl refl) c.put_bytes_text.ensures
