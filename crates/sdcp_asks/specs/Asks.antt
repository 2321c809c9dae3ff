-- Document 01, "SDCP and VMC (001, 002, 004)", and document 02, §5 and §8: the packet, and what it asks.
use Rattle.std.specs.Prelude.{ℕ, ◌-◌, Bool, not, cond, List, [], ◌∷◌, length, get_or, drop, eqb, ltb, Option, Some, None, Result, Ok, Err}
use Rattle.laws.specs.Bytes.{ascii, begins}
use Rattle.laws.specs.Numbers.{number}
use Rattle.terms.specs.declared.Answer.{Answer}
use Rattle.terms.specs.declared.Answer.TheVariants as answers
use Rattle.terms.specs.declared.Answer.TheVariants.{WrongLength, NotForUs, StatusByBroadcast, PartWrong}
use Rattle.terms.specs.declared.Part.{Part}
use Rattle.terms.specs.declared.Part.TheVariants.{Request, Item, TooLong, NotMatching}
use Rattle.vmc_asks.specs.Asks.{read_data, asks_status}
use Rattle.vmc_asks.specs.declared.Order.{Order}
use Rattle.sdcp_asks.specs.declared.Fault.{Fault}
use Rattle.sdcp_asks.specs.declared.Fault.TheVariants.{Refused, Broken, NotUnderstood}

-- "Numbers are high byte first: version 03h, category 0Bh, community "SONY", group, unit, request, item (2), data length (2), data."
abbrev pub front : List ℕ
front = 0x03 ∷ 0x0b ∷ ascii "SONY"

unfoldable pub is_ours : List ℕ → Bool
is_ours m = begins front m

abbrev pub group_of : List ℕ → ℕ
group_of m = get_or m 6 0

abbrev pub unit_of : List ℕ → ℕ
unit_of m = get_or m 7 0

abbrev pub request_of : List ℕ → ℕ
request_of m = get_or m 8 0

abbrev pub item_of : List ℕ → ℕ
item_of m = number (get_or m 9 0 ∷ get_or m 10 0 ∷ [])

abbrev pub data_length_of : List ℕ → ℕ
data_length_of m = number (get_or m 11 0 ∷ get_or m 12 0 ∷ [])

-- "The data area, from byte 13 to its end, is read"
abbrev pub data_of : List ℕ → List ℕ
data_of m = drop 13 m

-- "request is not 00h, item not B000h, data length over 499, or data length not the number of bytes that follow"
abbrev pub request_wrong : List ℕ → Bool
request_wrong m = not (eqb (request_of m) 0)

abbrev pub item_wrong : List ℕ → Bool
item_wrong m = not (eqb (item_of m) 0xb000)

abbrev pub too_long : List ℕ → Bool
too_long m = ltb 499 (data_length_of m)

abbrev pub not_matching : List ℕ → Bool
not_matching m = not (eqb (data_length_of m) (length m - 13))

-- Document 02, §8: "request byte, item, data length over 499, data length not matching [..]; in that order within each form"
unfoldable pub envelope_of : List ℕ → Result (Unit {0}) Part
envelope_of m =
    cond (request_wrong m) (Err Request)
    (cond (item_wrong m) (Err Item)
    (cond (too_long m) (Err TooLong)
    (cond (not_matching m) (Err NotMatching)
    (Ok tt))))

-- the answer to a packet that orders nothing
abbrev pub fault_answer : Fault → Answer
fault_answer (Refused a) = a
fault_answer (Broken p) = PartWrong p
fault_answer NotUnderstood = answers.NotUnderstood

-- what is heard of a packet: the order that it asks, or why it orders nothing
abbrev pub Heard : Type 0
Heard = Result Order Fault

-- what the words of the data say
abbrev pub in_words : Option Order → Heard
in_words (Some o) = Ok o
in_words None = Err NotUnderstood

-- "at the old place of 5": what lies in a good envelope is heard, and of any other the part that is wrong
abbrev pub unless_wrong : Result (Unit {0}) Part → Heard → Heard
unless_wrong (Ok tt) h = h
unless_wrong (Err p) h = Err (Broken p)

-- length, front and envelope, in this order: the first fault, if there is one
abbrev pub in_envelope : Result (Unit {0}) Part → Result (Unit {0}) Fault
in_envelope (Ok tt) = Ok tt
in_envelope (Err p) = Err (Broken p)

unfoldable pub checked : List ℕ → Result (Unit {0}) Fault
checked m = cond (ltb (length m) 13) (Err (Refused WrongLength)) (cond (not (is_ours m)) (Err (Refused NotForUs)) (in_envelope (envelope_of m)))

-- "Under 13 bytes: 3. Wrong version, category or community [..]: 4." Who is addressed is the box's to judge.
unfoldable pub heard_of : List ℕ → Heard
heard_of m =
    cond (ltb (length m) 13) (Err (Refused WrongLength))
    (cond (not (is_ours m)) (Err (Refused NotForUs))
    (unless_wrong (envelope_of m) (in_words (read_data (data_of m)))))

-- Document 02, §5, "8, after 5 and before 6": what was heard of a packet, where it asks for a status that it may not ask for
abbrev pub unless_status : Bool → Heard → Heard
unless_status asked (Err (Refused a)) = Err (Refused a)
unless_status asked (Err (Broken p)) = Err (Broken p)
unless_status asked (Err NotUnderstood) = cond asked (Err (Refused StatusByBroadcast)) (Err NotUnderstood)
unless_status asked (Ok o) = cond asked (Err (Refused StatusByBroadcast)) (Ok o)

-- "when the packet passes the envelope checks, came by UDP, and the trimmed data is STATget alone or begins with STATget and a space": what a
-- packet asks that came by UDP
unfoldable pub cast_of : List ℕ → Heard
cast_of m = unless_status (asks_status (data_of m)) (heard_of m)
