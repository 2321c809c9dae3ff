-- The promise at the ways in: the whole outcome is the step's, and every lent byte.
use Rattle.std.specs.Prelude.{ℕ, ◌≡◌, List, eqb}
use Rattle.terms.specs.Answers.{number_of}
use Rattle.terms.specs.declared.Answer.{Answer}
use Rattle.panels.specs.declared.DisplayBox.{DisplayBox}
use Rattle.steps.specs.Messages.{Message, rs232c, kjw, tcp, udp}
use Rattle.steps.specs.Step.{Outcome as Stepped, step}
use Rattle.addresses.specs.declared.Line.{Line}
use Rattle.addresses.specs.declared.Line.TheVariants.{Rs232c, Kjw, Tcp}
use Rattle.ways_in.specs.declared.Way.{Way}
use Rattle.ways_in.specs.declared.Way.TheVariants.{By, Udp}
use Rattle.ways_in.specs.declared.Outcome.{Outcome}

-- the box after the message, the answer, the reply's length, whether the answer is 0, and the area; by UDP the area is none
pub record Steps (b : DisplayBox) (m : Message) (r : Outcome) (area' : List ℕ) : Type 0 where
  pub after_is : r.after ≡ (step b m).box
  pub answer_is : r.answer ≡ (step b m).answer
  pub length_is : r.len ≡ (step b m).back.len
  pub done_is : r.done ≡ eqb (number_of (step b m).answer) 0
  pub area_is : area' ≡ (step b m).back.area

-- "RS-232C port of panel p, KJW link of panel p, SDCP by TCP on the link of panel p"
abbrev pub message_of : Line → ℕ → List ℕ → List ℕ → Message
message_of Rs232c l m area = rs232c l m area
message_of Kjw l m area = kjw l m area
message_of Tcp l m area = tcp l m area

-- what came of a message: the box after it, the answer, the reply's length, and the area after it
pub record Came : Type 0 where
  pub box : DisplayBox
  pub answer : Answer
  pub len : ℕ
  pub area : List ℕ

-- "All but UDP come with a lent reply area."
abbrev pub with_area : Stepped → Came
with_area o = record { box = o.box; answer = o.answer; len = o.back.len; area = o.back.area }

-- by UDP there is no reply, and an area that is handed in with it keeps its bytes
abbrev pub unanswered : Stepped → List ℕ → Came
unanswered o area = record { box = o.box; answer = o.answer; len = o.back.len; area = area }

abbrev pub came_by : Way → DisplayBox → ℕ → List ℕ → List ℕ → Came
came_by (By line) b l m area = with_area (step b (message_of line l m area))
came_by Udp b l m area = unanswered (step b (udp m)) area

-- the answer says whether it was done
abbrev pub outcome_of : Came → Outcome
outcome_of c = record { after = c.box; answer = c.answer; len = c.len; done = eqb (number_of c.answer) 0 }
