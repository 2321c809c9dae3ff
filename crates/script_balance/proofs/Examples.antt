-- A white balance in a line, by computation.
use mathlib.Core.Path.{◌≡◌, refl}
use mathlib.Core.List.{[], ◌∷◌}
use lib.IntN.{pos, negsuc}
use Rattle.laws.specs.Bytes.{ascii}
use Rattle.decimals.specs.Decimals.{in_digits}
use Rattle.decimals.specs.Plain.{width_from, width, plain}
use Rattle.script_text.specs.Texts.{number_text, signed_text}
use Rattle.script_balance.specs.Balance.{gains_text, bias_text, biases_text, balance_text}

balance : balance_text (record { gains = 0 ∷ 4095 ∷ 7 ∷ []; biases = negsuc 1023 ∷ pos 0 ∷ pos 1023 ∷ [] }) ≡ ascii " GAIN 0 4095 7 BIAS -1024 0 1023"
unfolding balance_text gains_text biases_text bias_text signed_text number_text plain width width_from in_digits
balance = refl
