-- One line of a piece, or what the piece has of it, for the code alone: it is put into the store, and answered where it ended.
use Rattle.std.specs.Prelude.{ℕ, ◌≡◌, cond, List, [], take}
use Rattle.script_text.specs.Puts.{Puts}
use Rattle.script_pieces.specs.Parts.{Takes}
use Rattle.script_pieces.specs.declared.Part.{Part}
use Rattle.script.specs.Answers.{LineEffect}
use Rattle.script.specs.Answers.{answered}
use Rattle.script_run.specs.declared.Progress.{Progress}

-- what a part of a line does: the line is answered where it ended, with the box that is held
unfoldable pub part_done : Progress → Part → List ℕ → LineEffect
part_done p part store = cond part.ended (answered p.held (take part.kept store)) (record { held = p.held; text = [] })

-- the promise: what was taken, and what it did; its text stands behind what was written before
pub record RunsLine (p : Progress) (piece store area : List ℕ) (r : Progress) (store' area' : List ℕ) : Type 0 where
  pub part : Part
  pub part_is : Takes piece p.next p.kept store part store'
  pub held_is : r.held ≡ (part_done p part store').held
  pub text_is : Puts (part_done p part store').text area p.len area' r.len
  pub kept_is : r.kept ≡ cond part.ended 0 part.kept
  pub next_is : r.next ≡ part.next
