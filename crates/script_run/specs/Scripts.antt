-- docs/SCRIPTS.md, "Lines": the lines of a script, and what they do and write one after the other.
use Rattle.std.specs.Prelude.{ℕ, cond, List, [], ◌∷◌, ◌++◌, eqb}
use Rattle.script.specs.Answers.{at_start}
use Rattle.script.specs.declared.Held.{Held}
use Rattle.script_words.specs.Words.{to_first}
use Rattle.script.specs.Answers.{LineEffect}
use Rattle.script.specs.Answers.{answered}

-- "A line ends with 0Ah; the last may lack it."
unfoldable pub lines_of : List ℕ → List (List ℕ)
lines_of [] = []
lines_of (x ∷ s) = cond (eqb x 0x0a) ([] ∷ lines_of s) (to_first x (lines_of s))

-- one line after the other: each has the box that the one before it left, and the texts stand one behind the other
unfoldable pub in_turn : Held → List (List ℕ) → LineEffect
in_turn b [] = record { held = b; text = [] }
in_turn b (line ∷ lines) = record {
  held = (in_turn (answered b line).held lines).held;
  text = (answered b line).text ++ (in_turn (answered b line).held lines).text;
}

-- "A script starts with a box of no panels."
unfoldable pub script_done : List ℕ → LineEffect
script_done script = in_turn at_start (lines_of script)
