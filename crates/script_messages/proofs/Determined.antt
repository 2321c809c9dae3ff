-- Each promise allows one outcome: it is a promise about one effect.
use mathlib.Core.Path.{◌≡◌, sym, ◌∙◌}
use mathlib.Core.List.{List}
use Prim.Native.Nat.{ℕ}
use Rattle.panels.specs.declared.DisplayBox.{DisplayBox}
use Rattle.steps.specs.Messages.{udp}
use Rattle.steps.specs.Step.{step}
use Rattle.script_words.specs.Words.{bytes_at}
use Rattle.script_answers.specs.Answers.{Answers}
use Rattle.script_answers.specs.declared.Answered.{Answered}
use Rattle.script_answers.proofs.Determined.{Agree, answers_one}
use Rattle.script_messages.specs.Messages.{stepped, messaged, spread}
use Rattle.addresses.specs.declared.Line.{Line}
use Rattle.ways_in.specs.Promise.{message_of}

pub carry_one : (by : Line) (b : DisplayBox) (link : ℕ) (m lent area : List ℕ) (r r' : Answered DisplayBox) (x x' : List ℕ) → Answers (stepped (step b (message_of by link m lent))) r area x → Answers (stepped (step b (message_of by link m lent))) r' area x' → Agree r r' x x'
carry_one by b link m lent = answers_one (stepped (step b (message_of by link m lent)))

-- and the lent area with it
pub carry_lent_one : (by : Line) (b : DisplayBox) (link : ℕ) (m lent area : List ℕ) (r r' : Answered DisplayBox) (x x' y y' : List ℕ)
    → Answers (stepped (step b (message_of by link m lent))) r area x × (y ≡ (step b (message_of by link m lent)).back.area)
    → Answers (stepped (step b (message_of by link m lent))) r' area x' × (y' ≡ (step b (message_of by link m lent)).back.area)
    → Agree r r' x x' × (y ≡ y')
carry_lent_one by b link m lent area r r' x x' y y' p q = (carry_one by b link m lent area r r' x x' p.0 q.0, p.1 ∙ sym q.1)

module _ (b : DisplayBox) (line area : List ℕ) (r r' : Answered DisplayBox) (x x' : List ℕ) where
  pub answer_udp_one : Answers (spread (step b (udp (bytes_at 1 line)))) r area x → Answers (spread (step b (udp (bytes_at 1 line)))) r' area x' → Agree r r' x x'
  answer_udp_one = answers_one (spread (step b (udp (bytes_at 1 line)))) area r r' x x'

  pub answer_message_one : (by : Line) → Answers (messaged by b line) r area x → Answers (messaged by b line) r' area x' → Agree r r' x x'
  answer_message_one by = answers_one (messaged by b line) area r r' x x'
