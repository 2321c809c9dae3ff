-- docs/SCRIPTS.md, "Lines": a line that arrives in pieces.
use Rattle.std.specs.Prelude.{ℕ, ◌+◌, ◌≡◌, Bool, cond, List, ltb, length, drop}
use Rattle.script_words.specs.Words.{line_of}
use Rattle.script_text.specs.Puts.{Puts}
use Rattle.script_pieces.specs.declared.Part.{Part}

-- where the line that goes on at a place of the piece ends
abbrev pub end_of : ℕ → List ℕ → ℕ
end_of from piece = from + length (line_of (drop from piece))

-- "A line ends with 0Ah": whether it does in this piece
unfoldable pub is_ended : ℕ → List ℕ → Bool
is_ended from piece = ltb (end_of from piece) (length piece)

-- where the next line starts: behind the 0Ah, or at the end of the piece
unfoldable pub next_of : ℕ → List ℕ → ℕ
next_of from piece = cond (is_ended from piece) (end_of from piece + 1) (end_of from piece)

-- what belongs to the line is put into the store behind what stands there already, cut off where the store ends
pub record Takes (piece : List ℕ) (from kept : ℕ) (store : List ℕ) (r : Part) (store' : List ℕ) : Type 0 where
  pub kept_is : Puts (line_of (drop from piece)) store kept store' r.kept
  pub next_is : r.next ≡ next_of from piece
  pub ended_is : r.ended ≡ is_ended from piece
