-- docs/SCRIPTS.md, `show`: the white balance in the line of a panel's record.
use Rattle.std.specs.Prelude.{ℕ, List, ◌++◌, get_or, ℤ, pos}
use Rattle.laws.specs.Bytes.{ascii}
use Rattle.panels.specs.declared.Balance.{Balance}
use Rattle.script_text.specs.Texts.{number_text, signed_text}

unfoldable pub gains_text : List ℕ → List ℕ
gains_text g = number_text (ascii " GAIN ") (get_or g 0 0) ++ number_text (ascii " ") (get_or g 1 0) ++ number_text (ascii " ") (get_or g 2 0)

unfoldable pub bias_text : List ℕ → ℤ → List ℕ
bias_text word z = word ++ signed_text z

unfoldable pub biases_text : List ℤ → List ℕ
biases_text z =
    bias_text (ascii " BIAS ") (get_or z 0 (pos 0)) ++ bias_text (ascii " ") (get_or z 1 (pos 0)) ++ bias_text (ascii " ") (get_or z 2 (pos 0))

unfoldable pub balance_text : Balance → List ℕ
balance_text b = gains_text b.gains ++ biases_text b.biases
