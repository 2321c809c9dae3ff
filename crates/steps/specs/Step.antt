-- Document 01, "Answer numbers" and the forms, and document 02, §5 and §8: the one step, what a message does to a box.
use Rattle.std.specs.Prelude.{ℕ, ◌-◌, Bool, cond, List, [], ◌∷◌, eqb, ltb, length, get_or}
use Rattle.laws.specs.Bytes.{sent}
use Rattle.laws.specs.Runs.{each}
use Rattle.terms.specs.Answers.{number_of}
use Rattle.terms.specs.declared.Answer.{Answer}
use Rattle.terms.specs.declared.Answer.TheVariants.{Done, AreaTooSmall, NoSuchPanel, WrongLength, NotForUs}
use Rattle.turns.specs.Turns.{Turn, taken, turn_with}
use Rattle.panels.specs.Records.{past_end}
use Rattle.panels.specs.declared.Panel.{Panel}
use Rattle.panels.specs.declared.WRecord.{WRecord}
use Rattle.panels.specs.declared.KRecord.{KRecord}
use Rattle.panels.specs.declared.DisplayBox.{DisplayBox}
use Rattle.rs232c.specs.Replies as serial
use Rattle.kjw.specs.Replies as frames
use Rattle.sdcp_asks.specs.Asks.{cast_of}
use Rattle.sdcp.specs.Replies as packets
use Rattle.steps.specs.Messages.{Message, rs232c, kjw, tcp, udp, Name, names, on_link, is_w, is_k}
use Rattle.steps.specs.Addressing.{target, addressed, any_called}

abbrev pub with_w : Panel → WRecord → Panel
with_w p w = record { family = p.family; group = p.group; unit = p.unit; spare = p.spare; w = w; k = p.k }

abbrev pub with_k : Panel → KRecord → Panel
with_k p k = record { family = p.family; group = p.group; unit = p.unit; spare = p.spare; w = p.w; k = k }

abbrev pub with_panels : DisplayBox → List Panel → DisplayBox
with_panels b ps = record { count = b.count; panels = ps }

-- "Checks run in the order of the numbers"; document 02, §5, "8, after 5 and before 6", and §8, "9 request, 10 item, 11 over 499, 12 not matching,
-- 13 byte count, 14 checksum; in that order within each form, at the old place of 5": the numbers in the order of their checks
abbrev pub checks : List ℕ
checks = 1 ∷ 2 ∷ 3 ∷ 4 ∷ 9 ∷ 10 ∷ 11 ∷ 12 ∷ 13 ∷ 14 ∷ 8 ∷ 6 ∷ []

-- the numbers that a message can be answered with: 7 is for a configuration alone, 5 for an advert
abbrev pub message_answers : List ℕ
message_answers = 0 ∷ checks

-- ---- checks 1 and 2, and 3 or 4 where nobody is addressed, from the names and the message alone; Done where they are passed

-- 1: "reply area under 512 bytes"; 2: "no panel with that link number, or it is of the other family"
abbrev pub if_open : List ℕ → Bool → Answer → Answer
if_open area fits rest = cond (ltb (length area) 512) AreaTooSmall (cond fits rest NoSuchPanel)

-- "Under 13 bytes: 3. [..] or no panel addressed: 4."
unfoldable pub to_nobody : List ℕ → Answer
to_nobody m = cond (ltb (length m) 13) WrongLength NotForUs

-- "Checks run in the order of the numbers, and the first that applies is given; each is given only when its stated condition
-- holds. UDP skips 1 and 2."
unfoldable pub door : List Name → Message → Answer
door ns (rs232c l m area) = if_open area (is_w (on_link ns l)) Done
door ns (kjw l m area) = if_open area (is_k (on_link ns l)) Done
door ns (tcp l m area) = if_open area (is_w (on_link ns l)) (cond (eqb (target ns (tcp l m area)) 0) (to_nobody m) Done)
door ns (udp m) = cond (any_called m ns) Done (to_nobody m)

-- ---- what a panel does with a message that is addressed to it: it sees its own record alone

unfoldable pub turn : Message → Panel → Turn Panel
turn (rs232c l m area) p = turn_with (with_w p) (taken (length area) (serial.turn_of m) p.w)
turn (kjw l m area) p = turn_with (with_k p) (taken (length area) (frames.turn_of m) p.k)
turn (tcp l m area) p = turn_with (with_w p) (taken (length area) (packets.turn_of m) p.w)
turn (udp m) p = turn_with (with_w p) (packets.cast_turn_of m p.w)

-- ---- the step

-- "A reply fills the front of the area; bytes after it keep what they held, and the reply's length is returned (0 when there is
-- none)": "none by UDP", and there no area
pub record Back : Type 0 where
  pub len : ℕ
  pub area : List ℕ

abbrev pub back_on : List ℕ → List ℕ → Back
back_on area reply = record { len = length reply; area = sent reply area }

abbrev pub nothing : Back
nothing = record { len = 0; area = [] }

abbrev pub back : Message → List ℕ → Back
back (rs232c l m area) reply = back_on area reply
back (kjw l m area) reply = back_on area reply
back (tcp l m area) reply = back_on area reply
back (udp m) reply = nothing

pub record Outcome : Type 0 where
  pub box : DisplayBox
  pub answer : Answer
  pub back : Back

abbrev pub panel_at : ℕ → DisplayBox → Panel
panel_at i b = get_or b.panels i past_end

-- the turn of the one panel that a message with a link addresses
abbrev pub own_turn : List Name → DisplayBox → Message → Turn Panel
own_turn ns b m = turn m (panel_at (target ns m - 1) b)

-- by UDP the answer is that of what was heard, which is the same for every panel that is called
abbrev pub answer_to : List Name → DisplayBox → Message → Answer
answer_to ns b (rs232c l m area) = (own_turn ns b (rs232c l m area)).answer
answer_to ns b (kjw l m area) = (own_turn ns b (kjw l m area)).answer
answer_to ns b (tcp l m area) = (own_turn ns b (tcp l m area)).answer
answer_to ns b (udp m) = packets.answer_of (cast_of m)

abbrev pub passed : List Name → DisplayBox → Message → Outcome
passed ns b m = record {
  box = with_panels b (each (addressed ns m) (λ (p : Panel). (turn m p).after) b.panels);
  answer = answer_to ns b m;
  back = back m (own_turn ns b m).reply;
}

-- "unchanged", "none"
abbrev pub refused : DisplayBox → Message → Answer → Outcome
refused b m a = record { box = b; answer = a; back = back m [] }

abbrev pub through : List Name → DisplayBox → Message → Answer → Outcome
through ns b m a = cond (eqb (number_of a) 0) (passed ns b m) (refused b m a)

unfoldable pub step : DisplayBox → Message → Outcome
step b m = through (names b) b m (door (names b) m)
