-- Each promise allows one outcome: it is a promise about one effect.
use mathlib.Core.List.{List}
use Prim.Native.Nat.{ℕ}
use Rattle.configure.specs.Configure.{configured}
use Rattle.panels.specs.declared.DisplayBox.{DisplayBox}
use Rattle.script_words.specs.Words.{number_at}
use Rattle.script_boxes.specs.Boxes.{configuration_of}
use Rattle.script_answers.specs.Answers.{Answers, writes}
use Rattle.script_answers.specs.declared.Answered.{Answered}
use Rattle.script_answers.proofs.Determined.{Agree, answers_one}
use Rattle.script_panels.specs.Panels.{boxed, shown_at}

module _ (line area : List ℕ) (r r' : Answered DisplayBox) (x x' : List ℕ) where
  pub answer_box_one : Answers (boxed (configured (configuration_of line))) r area x → Answers (boxed (configured (configuration_of line))) r' area x' → Agree r r' x x'
  answer_box_one = answers_one (boxed (configured (configuration_of line))) area r r' x x'

  pub answer_show_one : (b : DisplayBox) → Answers (writes b (shown_at b (number_at 4294967295 1 line))) r area x → Answers (writes b (shown_at b (number_at 4294967295 1 line))) r' area x' → Agree r r' x x'
  answer_show_one b = answers_one (writes b (shown_at b (number_at 4294967295 1 line))) area r r' x x'
