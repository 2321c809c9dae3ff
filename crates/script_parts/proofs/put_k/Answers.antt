-- `put_k` puts its parts one behind the other.
use mathlib.Core.List.{[], ◌++◌, ◌∷◌, append_assoc}
use mathlib.Core.Path.{◌∙◌, ◌≡◌, refl}
use Rattle.laws.specs.Bytes.{ascii}
use Rattle.panels.specs.declared.KRecord.{KRecord}
use Rattle.script_text.specs.Texts.{number_text}
use Rattle.script_forms.proofs.Forms.{forms, spoken}
use Rattle.script_text.proofs.Puts.{puts_as, puts_then}
use Rattle.script_parts.specs.Parts.{input_text, k_text, mutes_text}
use Rattle.script_parts.proofs.put_k.Goals as goal

-- the words of its line, each with its number, are its first four parts
parts : (k : KRecord) → spoken [] (ascii "K POWR " ∷ ascii " INPT " ∷ ascii " " ∷ ascii " VOLU " ∷ ascii " AMUT " ∷ ascii " PMUT " ∷ []) (k.power ∷ k.kind ∷ k.port ∷ k.volume ∷ k.amut ∷ k.pmut ∷ []) ≡ number_text (ascii "K POWR ") k.power ++ input_text k ++ number_text (ascii " VOLU ") k.volume ++ mutes_text k
unfolding input_text mutes_text
parts k = simp append_assoc

pub returns : goal.returns
unfolding k_text
returns c =
    puts_then (puts_as (forms [] (ascii "K POWR " ∷ ascii " INPT " ∷ ascii " " ∷ ascii " VOLU " ∷ ascii " AMUT " ∷ ascii " PMUT " ∷ []) _ refl refl ∙ parts c.args.k) c.put_numbers-to.ensures) c.put_scene.ensures
