-- docs/SCRIPTS.md, "Orders": what a message does to the box, and what its line writes.
use Rattle.std.specs.Prelude.{ℕ, List}
use Rattle.panels.specs.declared.DisplayBox.{DisplayBox}
use Rattle.steps.specs.Step.{step}
use Rattle.steps.specs.Step as steps
use Rattle.script_words.specs.Words.{number_at, bytes_at}
use Rattle.script_words.specs.Kinds.{most_n, most_area}
use Rattle.script_answers.specs.Answers.{Effect, writes, filler, answer_text, replied}
use Rattle.addresses.specs.declared.Line.{Line}
use Rattle.ways_in.specs.Promise.{message_of}

unfoldable pub stepped : steps.Outcome → Effect
stepped o = writes o.box (replied o.answer o.back.len o.back.area)

unfoldable pub messaged : Line → DisplayBox → List ℕ → Effect
messaged by b line = stepped (step b (message_of by (number_at most_n 1 line) (bytes_at 3 line) (filler (number_at most_area 2 line))))

-- "by SDCP on UDP"
unfoldable pub spread : steps.Outcome → Effect
spread o = writes o.box (answer_text o.answer)
