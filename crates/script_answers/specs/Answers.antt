-- docs/SCRIPTS.md, "Orders": what a line leaves, the box after it and a text, and the promise of it.
use Rattle.std.specs.Prelude.{ℕ, ◌≡◌, List, [], ◌∷◌, ◌++◌, take, drop, replicate}
use Rattle.terms.specs.Answers.{number_of, answer_place}
use Rattle.terms.specs.declared.Answer.{Answer}
use Rattle.panels.specs.declared.DisplayBox.{DisplayBox}
use Rattle.script_text.specs.Puts.{Puts}
use Rattle.script_text.specs.Texts.{placed_text, reply_text}
use Rattle.script_answers.specs.declared.Answered.{Answered}

-- the box after a line, and the text that the line writes
pub record Effect : Type 0 where
  pub box : DisplayBox
  pub text : List ℕ

-- a line of its own
unfoldable pub writes : DisplayBox → List ℕ → Effect
writes b text = record { box = b; text = text ++ (0x0a ∷ []) }

-- "a reply area of AREA bytes (0 to 1,024), each A5h"
abbrev pub filler : ℕ → List ℕ
filler n = replicate n 0xa5

-- "`answer A`", and "`answer A at P` where P is not 0"
abbrev pub answer_text : Answer → List ℕ
answer_text a = placed_text (number_of a) (answer_place a)

-- "A message with a reply area writes `answer A reply HEX`"
unfoldable pub replied : Answer → ℕ → List ℕ → List ℕ
replied a len area = reply_text (number_of a) (answer_place a) (take len area) (drop len area)

-- the promise: the box after the line, and its text at the front of the area, cut off where the area ends
pub record Answers (o : Effect) (r : Answered DisplayBox) (area area' : List ℕ) : Type 0 where
  pub box_is : r.after ≡ o.box
  pub text_is : Puts o.text area 0 area' r.len
