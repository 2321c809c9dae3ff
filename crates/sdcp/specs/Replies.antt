-- Document 01, "SDCP and VMC" and "Answer numbers", and document 02, §5 and §8: what a packet does to a W panel's record, and what is sent back by TCP.
use Rattle.std.specs.Prelude.{ℕ, List, [], ◌∷◌, ◌++◌, length, Ok, Err}
use Rattle.laws.specs.Bytes.{part}
use Rattle.laws.specs.Numbers.{in_bytes}
use Rattle.terms.specs.declared.Answer.{Answer}
use Rattle.terms.specs.declared.Answer.TheVariants.{Done, PartWrong}
use Rattle.terms.specs.declared.Answer.TheVariants as answers
use Rattle.turns.specs.Turns.{Turn, left}
use Rattle.panels.specs.declared.WRecord.{WRecord}
use Rattle.vmc.specs.Orders.{carried, says_of}
use Rattle.vmc_tells.specs.Texts.{text_of}
use Rattle.vmc_tells.specs.declared.Says.TheVariants.{Bare}
use Rattle.sdcp_asks.specs.Asks.{fault_answer, heard_of, cast_of, Heard}
use Rattle.sdcp_asks.specs.declared.Fault.TheVariants.{Refused, Broken, NotUnderstood}
use Rattle.sdcp.specs.declared.Reply.{Reply}
use Rattle.sdcp.specs.declared.Reply.TheVariants.{Silent, Ng, Ok as OkWith}

-- "request's first eight bytes, 00h [or 01h], its item, length [..]", and the data
unfoldable pub packet_of : List ℕ → ℕ → List ℕ → List ℕ
packet_of m code body = part 0 8 m ++ (code ∷ []) ++ part 9 2 m ++ in_bytes 2 (length body) ++ body

-- "NG: request's first eight bytes, 00h, its item, length 2, F0h 50h. OK is the same with 01h and the data's length. Error F010h
-- is never sent."
unfoldable pub bytes_of : List ℕ → Reply → List ℕ
bytes_of m Silent = []
bytes_of m Ng = packet_of m 0x00 (0xf0 ∷ 0x50 ∷ [])
bytes_of m (OkWith told) = packet_of m 0x01 (text_of told)

-- the answer to what was heard, whatever the panel
abbrev pub answer_of : Heard → Answer
answer_of (Err f) = fault_answer f
answer_of (Ok o) = Done

-- what a packet does to the panel that it is addressed to; 5 is "SDCP NG by TCP", 6 "SDCP OK with no data by TCP". Where document 02, §8, has 9 to
-- 12 in the place of 5, "the bytes sent to the console stay as they were".
unfoldable pub turned : List ℕ → Heard → WRecord → Turn WRecord
turned m (Err (Refused a)) w = left w a
turned m (Err (Broken p)) w = record { after = w; answer = PartWrong p; reply = bytes_of m Ng }
turned m (Err NotUnderstood) w = record { after = w; answer = answers.NotUnderstood; reply = bytes_of m (OkWith Bare) }
turned m (Ok o) w = record { after = carried o w; answer = Done; reply = bytes_of m (OkWith (says_of o w)) }

abbrev pub turn_of : List ℕ → WRecord → Turn WRecord
turn_of m = turned m (heard_of m)

-- a packet by UDP: document 02, §5, refuses one that asks for a status, and then "no panel changes and no reply is sent"
abbrev pub cast_turn_of : List ℕ → WRecord → Turn WRecord
cast_turn_of m = turned m (cast_of m)
