-- The promise allows one outcome: it is a promise about one effect.
use Prim.Native.Nat.{ℕ}
use mathlib.Core.List.{List}
use Rattle.panels.specs.declared.DisplayBox.{DisplayBox}
use Rattle.reader.specs.Plain.{plain}
use Rattle.script_words.specs.Words.{bytes_at}
use Rattle.script_answers.specs.Answers.{Answers, writes}
use Rattle.script_answers.specs.declared.Answered.{Answered}
use Rattle.script_answers.proofs.Determined.{Agree, answers_one}
use Rattle.script_listings.specs.Listings.{plain_text}

pub answer_plain_one : (b : DisplayBox) (line area : List ℕ) (r r' : Answered DisplayBox) (x x' : List ℕ) → Answers (writes b (plain_text (plain (bytes_at 1 line)))) r area x → Answers (writes b (plain_text (plain (bytes_at 1 line)))) r' area x' → Agree r r' x x'
answer_plain_one b line = answers_one (writes b (plain_text (plain (bytes_at 1 line))))
