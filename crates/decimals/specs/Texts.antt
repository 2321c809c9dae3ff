-- A text of at most n bytes, as the code holds it: at the front of n bytes, zeros behind it, and its length.
use Rattle.std.specs.Prelude.{ℕ, ◌-◌, List, ◌++◌, length, replicate}
use Rattle.decimals.specs.declared.Text.{Text}

unfoldable pub text : (n : ℕ) → List ℕ → Text n
text n l = record { bytes = l ++ replicate (n - length l) 0; len = length l }
