-- A host's calls one after the other: the messages that they hand in, and what each of them got.
use Rattle.std.specs.Prelude.{ℕ, Bool, false, Option, Some, None, List, [], ◌∷◌}
use Rattle.laws.specs.Bytes.{same}
use Rattle.laws.specs.Runs.{run_by, heard_by}
use Rattle.panels.specs.declared.DisplayBox.{DisplayBox}
use Rattle.steps.specs.Messages.{Message, udp, Name, names}
use Rattle.steps.specs.Addressing.{addressed}
use Rattle.ways_in.specs.Promise.{message_of}
use Rattle.ways_in.specs.declared.Way.{Way}
use Rattle.ways_in.specs.declared.Way.TheVariants.{By, Udp}
use Rattle.host_box.specs.Called.{Called, way_of, called}

-- a call: the number of its way in, the link, the message, and the area as it was lent
pub record Call : Type 0 where
  pub way : ℕ
  pub link : ℕ
  pub message : List ℕ
  pub area : List ℕ

abbrev pub after_call : DisplayBox → Call → DisplayBox
after_call b k = (called b k.way k.link k.message k.area).box

-- the host's box after the calls
abbrev pub life : DisplayBox → List Call → DisplayBox
life b ks = run_by after_call b ks

-- the messages with that of a call in front; a way that does not exist hands in none
abbrev pub and_by : Option Way → Call → List Message → List Message
and_by (Some (By line)) k ms = message_of line k.link k.message k.area ∷ ms
and_by (Some Udp) k ms = udp k.message ∷ ms
and_by None k ms = ms

abbrev pub and_that : Call → List Message → List Message
and_that k ms = and_by (way_of k.way) k ms

abbrev pub messages_of : List Call → List Message
messages_of [] = []
messages_of (k ∷ ks) = and_that k (messages_of ks)

-- a call is for the panel at place i: its message is addressed to it
abbrev pub is_for_by : Option Way → ℕ → List Name → Call → Bool
is_for_by (Some (By line)) i ns k = addressed ns (message_of line k.link k.message k.area) i
is_for_by (Some Udp) i ns k = addressed ns (udp k.message) i
is_for_by None i ns k = false

abbrev pub is_for : ℕ → List Name → Call → Bool
is_for i ns k = is_for_by (way_of k.way) i ns k

-- what a call got: the answer's number and place, the reply's length, and the area after it. "All but UDP come with a lent reply area": what a host hands
-- in there is no part of the message, and may be another in a life that is the same to the panels. So of that area it is said whether it is as it
-- came
pub data CallGot : Type 0 where
  with_area : (answer place len : ℕ) → List ℕ → CallGot
  without_area : (answer place len : ℕ) → Bool → CallGot

abbrev pub got_through : Option Way → List ℕ → Called → CallGot
got_through (Some (By line)) area c = with_area c.answer c.place c.len c.area
got_through (Some Udp) area c = without_area c.answer c.place c.len (same c.area area)
got_through None area c = without_area c.answer c.place c.len (same c.area area)

abbrev pub got_call : DisplayBox → Call → CallGot
got_call b k = got_through (way_of k.way) k.area (called b k.way k.link k.message k.area)

-- what each of the calls for the panel at place i got
abbrev pub gots : ℕ → DisplayBox → List Call → List CallGot
gots i b ks = heard_by after_call (λ (c : DisplayBox) (k : Call). is_for i (names c) k) got_call b ks
