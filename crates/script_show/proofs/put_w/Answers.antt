-- `put_w` puts its parts one behind the other.
use mathlib.Core.List.{[], ◌∷◌}
use mathlib.Core.Path.{refl}
use Rattle.laws.specs.Bytes.{ascii}
use Rattle.script_forms.proofs.Forms.{forms}
use Rattle.script_text.proofs.Puts.{puts_as, puts_then}
use Rattle.script_show.specs.Shown.{w_text}
use Rattle.script_show.proofs.put_w.Goals as goal

pub returns : goal.returns
unfolding w_text
returns c =
    let balance = c in
    let inputs = balance in
    let settings = inputs in
    let ids = puts_as (forms [] (ascii "W " ∷ ascii " " ∷ []) _ refl refl) settings.put_numbers-a.ensures in
    puts_then (puts_then (puts_then ids settings.put_settings-b.ensures) inputs.put_inputs-c.ensures) balance.put_balance.ensures
