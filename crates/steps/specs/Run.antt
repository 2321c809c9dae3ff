-- Demand 3's words: a run of the step, the messages addressed to one panel, and the replies to these. "Some of them would pass demand 3
-- alone, so demand 3 is stated over demand 2's definition of a run."
use Rattle.std.specs.Prelude.{ℕ, List}
use Rattle.laws.specs.Runs.{run_by, kept_by, heard_by}
use Rattle.panels.specs.declared.DisplayBox.{DisplayBox}
use Rattle.steps.specs.Messages.{Message, Name, names}
use Rattle.steps.specs.Addressing.{addressed}
use Rattle.terms.specs.declared.Answer.{Answer}
use Rattle.steps.specs.Step.{Back, step}

-- what a message got: the answer, and what went back
pub record Got : Type 0 where
  pub answer : Answer
  pub back : Back

abbrev pub got_by : DisplayBox → Message → Got
got_by b m = record { answer = (step b m).answer; back = (step b m).back }

abbrev pub after : DisplayBox → Message → DisplayBox
after b m = (step b m).box

-- the box after the messages
abbrev pub run : DisplayBox → List Message → DisplayBox
run b ms = run_by after b ms

-- whom messages address after one: the same
abbrev pub next : List Name → Message → List Name
next ns m = ns

-- those of the messages that are addressed to the panel at place i
abbrev pub kept : ℕ → List Name → List Message → List Message
kept i ns ms = kept_by next (λ (n : List Name) (m : Message). addressed n m i) ns ms

-- what each of them got: answer, length and whole area
abbrev pub replies : ℕ → DisplayBox → List Message → List Got
replies i b ms = heard_by after (λ (c : DisplayBox) (m : Message). addressed (names c) m i) got_by b ms
