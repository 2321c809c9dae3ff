-- The box as a C host calls it: the one step, its ways in told apart by a number, its answers as numbers.
use Rattle.std.specs.Prelude.{ℕ, ◌-◌, cond, ◌&&◌, Option, Some, None, List, eqb, leb}
use Rattle.terms.specs.Answers.{number_of, answer_place}
use Rattle.terms.specs.declared.Answer.TheVariants.{NoSuchPanel}
use Rattle.panels.specs.Records.{zero_panel}
use Rattle.panels.specs.Valid.{valid}
use Rattle.panels.specs.declared.Panel.{Panel}
use Rattle.panels.specs.declared.DisplayBox.{DisplayBox}
use Rattle.steps.specs.Step.{panel_at}
use Rattle.addresses.specs.declared.Line.TheVariants.{Rs232c, Kjw, Tcp}
use Rattle.ways_in.specs.Promise.{Came, came_by}
use Rattle.ways_in.specs.declared.Way.{Way}
use Rattle.ways_in.specs.declared.Way.TheVariants.{By, Udp}
use Rattle.configure.specs.declared.Configured.{Configured}
use Rattle.host_box.specs.declared.Made.{Made}
use Rattle.host_box.specs.declared.Outcome.{Outcome}

-- a configuration's box, its answer as a number
abbrev pub made_of : Configured → Made
made_of c = record { made = c.made; answer = number_of c.answer }

-- what a call did: the box after it, the answer's number and place, the reply's length, and the area after it
pub record Called : Type 0 where
  pub box : DisplayBox
  pub answer : ℕ
  pub place : ℕ
  pub len : ℕ
  pub area : List ℕ

abbrev pub in_numbers : Came → Called
in_numbers c = record { box = c.box; answer = number_of c.answer; place = answer_place c.answer; len = c.len; area = c.area }

-- a way that does not exist leads to no panel
abbrev pub no_way : DisplayBox → List ℕ → Called
no_way b area = record { box = b; answer = number_of NoSuchPanel; place = answer_place NoSuchPanel; len = 0; area = area }

-- "RS-232C port of panel p, KJW link of panel p, SDCP by TCP on the link of panel p, or SDCP by UDP": 1, 2, 3, 4
unfoldable pub way_of : ℕ → Option Way
way_of n =
    cond (eqb n 1) (Some (By Rs232c))
    (cond (eqb n 2) (Some (By Kjw))
    (cond (eqb n 3) (Some (By Tcp))
    (cond (eqb n 4) (Some Udp)
    None)))

abbrev pub called_by : Option Way → DisplayBox → ℕ → List ℕ → List ℕ → Called
called_by (Some way) b link m area = in_numbers (came_by way b link m area)
called_by None b link m area = no_way b area

unfoldable pub called : DisplayBox → ℕ → ℕ → List ℕ → List ℕ → Called
called b way link m area = called_by (way_of way) b link m area

-- the number says whether it was done
abbrev pub numbers_of : Called → Outcome
numbers_of c = record { after = c.box; answer = c.answer; place = c.place; len = c.len; done = eqb c.answer 0 }

-- the panel behind a link: "numbered from 1 in the order given; that is also the link number"; all zeros where there is none,
-- and a box that breaks the rules is "a box of no panels"
unfoldable pub panel_behind : DisplayBox → ℕ → Panel
panel_behind b link = cond (valid b && leb 1 link && leb link b.count) (panel_at (link - 1) b) zero_panel
