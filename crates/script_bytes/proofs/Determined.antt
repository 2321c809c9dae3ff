-- Each promise allows one outcome: it is a promise about one effect.
use mathlib.Core.List.{List}
use Prim.Native.Nat.{ℕ}
use Rattle.panels.specs.declared.DisplayBox.{DisplayBox}
use Rattle.sdap.specs.Rules.{read_of}
use Rattle.script_words.specs.Words.{number_at, bytes_at}
use Rattle.script_write.specs.Wanted.{wanted}
use Rattle.script_answers.specs.Answers.{Answers, writes, filler}
use Rattle.script_answers.specs.declared.Answered.{Answered}
use Rattle.script_answers.proofs.Determined.{Agree, answers_one}
use Rattle.script_bytes.specs.Bytes.{read_text, wrote, summed}

module _ (b : DisplayBox) (line area : List ℕ) (r r' : Answered DisplayBox) (x x' : List ℕ) where
  pub answer_advert_one : Answers (writes b (read_text (read_of (bytes_at 1 line)))) r area x → Answers (writes b (read_text (read_of (bytes_at 1 line)))) r' area x' → Agree r r' x x'
  answer_advert_one = answers_one (writes b (read_text (read_of (bytes_at 1 line)))) area r r' x x'

  pub answer_write_one : Answers (writes b (wrote (wanted line) (filler (number_at 1024 1 line)))) r area x → Answers (writes b (wrote (wanted line) (filler (number_at 1024 1 line)))) r' area x' → Agree r r' x x'
  answer_write_one = answers_one (writes b (wrote (wanted line) (filler (number_at 1024 1 line)))) area r r' x x'

  pub answer_sum_one : Answers (writes b (summed (bytes_at 1 line))) r area x → Answers (writes b (summed (bytes_at 1 line))) r' area x' → Agree r r' x x'
  answer_sum_one = answers_one (writes b (summed (bytes_at 1 line))) area r r' x x'
