-- For the contracts of the code alone: a panel's turn, a refusal, and an order heeded by one panel.
use Rattle.std.specs.Prelude.{ℕ, ◌≡◌, cond, List, eqb}
use Rattle.laws.specs.Bytes.{Sent}
use Rattle.terms.specs.Answers.{number_of}
use Rattle.terms.specs.declared.Answer.{Answer}
use Rattle.terms.specs.declared.Outcome.{Outcome as OutcomeOf}
use Rattle.turns.specs.Turns.{Turn}
use Rattle.panels.specs.declared.Panel.{Panel}
use Rattle.panels.specs.declared.DisplayBox.{DisplayBox}
use Rattle.vmc.specs.Orders.{carried}
use Rattle.vmc_asks.specs.declared.Order.{Order}
use Rattle.steps.specs.Messages.{name_of}
use Rattle.steps.specs.Addressing.{is_called}
use Rattle.steps.specs.Step.{with_w}
use Rattle.ways_in.specs.declared.Outcome.{Outcome}

-- the panel after its turn, the answer, and the reply at the front of the area
pub record Acts (t : Turn Panel) (area : List ℕ) (r : OutcomeOf Panel) (area' : List ℕ) : Type 0 where
  pub after_is : r.after ≡ t.after
  pub answer_is : r.answer ≡ t.answer
  pub sends : Sent t.reply r.len area area'

-- the box as it was, with an answer and no reply
abbrev pub resting : DisplayBox → Answer → Outcome
resting b a = record { after = b; answer = a; len = 0; done = eqb (number_of a) 0 }

-- a panel that is called carries an order out
unfoldable pub heeded : List ℕ → Order → Panel → Panel
heeded m o p = cond (is_called m (name_of p)) (with_w p (carried o p.w)) p
