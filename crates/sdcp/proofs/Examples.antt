-- What was tried at the bench, on a panel at its start values, in one table: packets, answers, records and replies, by computation.
use Prim.Native.Nat.{ℕ}
use mathlib.Core.Path.{◌≡◌, refl}
use mathlib.Core.List.{List, [], ◌∷◌, ◌++◌, map}
use native.Mathlib.Omega.{arith}
use lib.ListN.{set, replicate}
use lib.IntN.{pos, negsuc}
use Rattle.laws.specs.Bytes.{ascii}
use Rattle.laws.specs.Numbers.{number, in_bytes}
use Rattle.terms.specs.declared.Answer.{Answer}
use Rattle.terms.specs.declared.Answer.TheVariants.{Done, AreaTooSmall, WrongLength, NotForUs, NotUnderstood, PartWrong}
use Rattle.terms.specs.declared.Part.{Part}
use Rattle.terms.specs.declared.Part.TheVariants.{Request, Item, TooLong, NotMatching}
use Rattle.turns.specs.Turns.{Turn, left, taken}
use Rattle.decimals.specs.Decimals.{is_digit, decimal, leads_zero, is_numeral, up_to, in_digits, numeral}
use Rattle.setting_words.specs.Names.{named_by, led_by, chosen_by}
use Rattle.panels.specs.Records.{start_w}
use Rattle.panels.specs.declared.WRecord.{WRecord}
use Rattle.vmc.specs.Orders.{with_settings, with_shifts, carried, says_of}
use Rattle.trimming.specs.Trimming.{unterminated, unspaced, trimmed}
use Rattle.trimming.proofs.Trimmed.{terminated, ends_bare}
use Rattle.vmc_asks.specs.Asks.{read_data, read_words, read_set, read_get, value_order, shift_order}
use Rattle.vmc_tells.specs.Texts.{text_of, set_words, move_words, value_words, shift_words}
use Rattle.sdcp_asks.specs.Asks.{is_ours, envelope_of, heard_of}
use Rattle.sdcp.specs.Replies.{packet_of, bytes_of, turned, turn_of}
use Rattle.sdcp.proofs.Ended.{EndedAs}

-- a row: the panel before a packet, the area's length, the packet, and its turn: the panel afterwards, the answer and the reply
record Row : Type 0 where
  before : WRecord
  room : ℕ
  packet : List ℕ
  turn : Turn WRecord

-- "03 0B 53 4F 4E 59 00 00 00 B0 00", the data's length, and the data
abbrev packet_from : List ℕ → ℕ → List ℕ → List ℕ
packet_from front size body = front ++ (0x00 ∷ 0xb0 ∷ 0x00 ∷ []) ++ in_bytes 2 size ++ body

abbrev own : List ℕ
own = 0x03 ∷ 0x0b ∷ 0x53 ∷ 0x4f ∷ 0x4e ∷ 0x59 ∷ 0x00 ∷ 0x00 ∷ []

abbrev ok : List ℕ → List ℕ
ok size = own ++ (0x01 ∷ 0xb0 ∷ 0x00 ∷ []) ++ size

-- NG: the item as it came, length 2, F0h 50h
abbrev ng : ℕ → List ℕ
ng item = own ++ (0x00 ∷ 0xb0 ∷ item ∷ 0x00 ∷ 0x02 ∷ 0xf0 ∷ 0x50 ∷ [])

abbrev row : WRecord → List ℕ → WRecord → Answer → List ℕ → Row
row w m after answer reply = record { before = w; room = 512; packet = m; turn = record { after = after; answer = answer; reply = reply } }

-- a set that is carried out, OK without data
abbrev done : ℕ → List ℕ → WRecord → Row
done size words after = row start_w (packet_from own size words) after Done (ok (0 ∷ 0 ∷ []))

-- 6, OK without data
abbrev strange : ℕ → List ℕ → Row
strange size words = row start_w (packet_from own size words) start_w NotUnderstood (ok (0 ∷ 0 ∷ []))

-- a part of the envelope wrong (document 02, §8): NG
abbrev broken : Part → List ℕ → ℕ → Row
broken p m item = row start_w m start_w (PartWrong p) (ng item)

-- no reply
abbrev refused : ℕ → List ℕ → Answer → Row
refused room m answer = record { before = start_w; room = room; packet = m; turn = left start_w answer }

-- ---- * `STATset VOLUME 40`: `03 0B 53 4F 4E 59 00 00 01 B0 00 00 00`, and the set stands in the record; * "Then `STATget VOLUME`: length
-- 9, `VOLUME 40`"

abbrev loud : ℕ → WRecord
loud v = with_settings start_w (set start_w.settings 2 v)

abbrev volume_40 : Row
volume_40 = done 17 (ascii "STATset VOLUME 40") (loud 40)

abbrev volume_asked_lem : Row
volume_asked_lem = row (loud 40) (packet_from own 14 (ascii "STATget VOLUME")) (loud 40) Done (ok (0 ∷ 9 ∷ ascii "VOLUME 40"))

-- ---- * "VOLUME 100 is set; * 101: 6, OK without data"

abbrev volume_100 : Row
volume_100 = done 18 (ascii "STATset VOLUME 100") (loud 100)

abbrev volume_101 : Row
volume_101 = strange 18 (ascii "STATset VOLUME 101")

-- ---- * "SHIFTH -30 is set; * -31 and -0: 6"

abbrev shift_30 : Row
shift_30 = done 18 (ascii "STATset SHIFTH -30") (with_shifts start_w (negsuc 29 ∷ pos 0 ∷ []))

abbrev shift_31 : Row
shift_31 = strange 18 (ascii "STATset SHIFTH -31")

abbrev shift_minus_0 : Row
shift_minus_0 = strange 17 (ascii "STATset SHIFTH -0")

-- ---- * "Request 01h: ending `00 B0 00 00 02 F0 50`"; another item is echoed as it came

abbrev request_1 : Row
request_1 = broken Request (own ++ (0x01 ∷ 0xb0 ∷ 0x00 ∷ 0x00 ∷ 0x00 ∷ [])) 0x00

abbrev item_b001 : Row
item_b001 = broken Item (own ++ (0x00 ∷ 0xb0 ∷ 0x01 ∷ 0x00 ∷ 0x00 ∷ [])) 0x01

-- ---- "Community `sony`: 4"; twelve bytes: 3; an area of 511: 1

abbrev community : Row
community = refused 512 (packet_from (0x03 ∷ 0x0b ∷ ascii "sony" ++ (0 ∷ 0 ∷ [])) 0 []) NotForUs

abbrev twelve : Row
twelve = refused 512 (own ++ (0x00 ∷ 0xb0 ∷ 0x00 ∷ 0x00 ∷ [])) WrongLength

abbrev area_511 : Row
area_511 = refused 511 (packet_from own 17 (ascii "STATset VOLUME 40")) AreaTooSmall

-- ---- "Data length 499 in 512 bytes passes the envelope; 500 in 513: 5.", which is 11 since document 02, §8; a data length that is not the
-- data's: 12

abbrev data_499 : Row
data_499 = strange 499 (replicate 499 0x41)

abbrev data_500 : Row
data_500 = broken TooLong (packet_from own 500 (replicate 500 0x41)) 0x00

abbrev data_short : Row
data_short = broken NotMatching (packet_from own 16 (ascii "STATset VOLUME 40")) 0x00

-- ---- document 02, §8, "in that order": each fault with the next behind it

abbrev request_item : Row
request_item = broken Request (own ++ (0x01 ∷ 0xb0 ∷ 0x01 ∷ 0x00 ∷ 0x00 ∷ [])) 0x01

abbrev item_too_long : Row
item_too_long = broken Item (own ++ (0x00 ∷ 0xb0 ∷ 0x01 ∷ 0xff ∷ 0xff ∷ [])) 0x01

abbrev too_long_alone : Row
too_long_alone = broken TooLong (own ++ (0x00 ∷ 0xb0 ∷ 0x00 ∷ 0xff ∷ 0xff ∷ [])) 0x00

-- ---- the table

examples : List Row
examples =
    volume_40 ∷ volume_asked_lem ∷ volume_100 ∷ volume_101 ∷
    shift_30 ∷ shift_31 ∷ shift_minus_0 ∷
    request_1 ∷ item_b001 ∷
    community ∷ twelve ∷ area_511 ∷
    data_499 ∷ data_500 ∷ data_short ∷
    request_item ∷ item_too_long ∷ too_long_alone ∷ []

-- every row's turn is what the packet comes to
tried : map (λ (r : Row). taken r.room (turn_of r.packet) r.before) examples ≡ map (λ (r : Row). r.turn) examples
unfolding examples taken heard_of is_ours envelope_of number in_bytes turned carried says_of read_data read_words trimmed unspaced unterminated read_set read_get value_order up_to is_numeral leads_zero shift_order is_digit decimal in_digits numeral named_by led_by chosen_by bytes_of packet_of text_of set_words move_words value_words shift_words
tried = refl

-- and a packet with a space and 00h behind its string is that packet without
ended_one : EndedAs (packet_from own 17 (ascii "STATset VOLUME 40")) (packet_from own 19 (ascii "STATset VOLUME 40" ++ (0x20 ∷ 0x00 ∷ [])))
unfolding envelope_of number in_bytes ends_bare
ended_one = record { front_same = refl; long = omega arith; ended_long = omega arith; sound = refl; ended_sound = refl; ends_bare_holds = refl; ended = terminated 1 }
