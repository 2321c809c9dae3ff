-- docs/SCRIPTS.md, "Orders": what `box` does and writes, and what `show` writes.
use Rattle.std.specs.Prelude.{ℕ, ◌-◌, Bool, cond, ◌&&◌, List, leb}
use Rattle.laws.specs.Bytes.{ascii}
use Rattle.terms.specs.Answers.{number_of}
use Rattle.configure.specs.declared.Configured.{Configured}
use Rattle.panels.specs.declared.DisplayBox.{DisplayBox}
use Rattle.steps.specs.Step.{panel_at}
use Rattle.script_text.specs.Texts.{number_text}
use Rattle.script_show.specs.Shown.{panel_text}
use Rattle.script_answers.specs.Answers.{Effect, writes}

-- "a new box: [..] `box 0` or `box 7`"
unfoldable pub boxed : Configured → Effect
boxed c = writes c.made (number_text (ascii "box ") (number_of c.answer))

-- "the panel's record, or `none`"
unfoldable pub is_there : ℕ → ℕ → Bool
is_there count link = leb 1 link && leb link 8 && leb link count

unfoldable pub shown_at : DisplayBox → ℕ → List ℕ
shown_at b link = cond (is_there b.count link) (panel_text (panel_at (link - 1) b)) (ascii "none")
