-- A form with its numbers, by computation.
use mathlib.Core.Path.{◌≡◌, refl}
use mathlib.Core.List.{[], ◌∷◌}
use Rattle.laws.specs.Bytes.{ascii}
use Rattle.decimals.specs.Decimals.{in_digits}
use Rattle.decimals.specs.Plain.{width_from, width, plain}
use Rattle.script_forms.specs.Forms.{mark_text, marks_of, numbers_text}

-- a form: its numbers in turn, 0 where there are no more
form : numbers_text (ascii "a # b # #") (7 ∷ 10 ∷ []) ≡ ascii "a 7 b 10 0"
unfolding numbers_text mark_text marks_of plain width width_from in_digits
form = refl
