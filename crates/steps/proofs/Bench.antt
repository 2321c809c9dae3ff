-- Document 01, "What was tried at the bench": each row's messages go through `configured` and `step`, and what comes back is computed.
use Prim.Native.Nat.{ℕ}
use Prim.Native.String.{String}
use mathlib.Core.Path.{◌≡◌, refl}
use mathlib.Core.List.{List, [], ◌∷◌, ◌++◌, map}
use lib.IntN.{ℤ, pos, negsuc}
use lib.ListN.{length, get_or, take, drop, replicate}
use Rattle.laws.specs.Bytes.{ascii}
use Rattle.terms.specs.Answers.{number_of, answer_place}
use Rattle.settings.specs.Table.{flip_place}
use Rattle.panels.specs.Records.{family_w, family_k}
use Rattle.configure.specs.Configure.{configured}
use Rattle.panels.specs.declared.Panel.{Panel}
use Rattle.panels.specs.declared.DisplayBox.{DisplayBox}
use Rattle.steps.specs.Messages.{Message, rs232c, kjw, tcp, udp}
use Rattle.steps.specs.Step.{panel_at, Outcome, step}
use Rattle.steps.specs.Run.{run}
use Rattle.steps.proofs.Opened.{opened}

-- W 1/1, W 1/2, K and W 2/1 at their start values, on the links 1 to 4
abbrev pub box : DisplayBox
box = (configured (family_w ∷ 1 ∷ 1 ∷ family_w ∷ 1 ∷ 2 ∷ family_k ∷ 0 ∷ 0 ∷ family_w ∷ 2 ∷ 1 ∷ [])).made

-- an area of a filler that no reply has a byte of
abbrev pub lent : ℕ → List ℕ
lent n = replicate n 0xee

abbrev pub area_of : Message → List ℕ
area_of (rs232c l m area) = area
area_of (kjw l m area) = area
area_of (tcp l m area) = area
area_of (udp m) = []

-- a row: the messages before, the message, and what was seen: its answer with its place, the reply's bytes and what the row looks at afterwards
pub record Row : Type 0 where
  pub before : List Message
  pub message : Message
  pub answer : ℕ
  pub place : ℕ
  pub reply : List ℕ
  pub looks : DisplayBox → List ℤ
  pub values : List ℤ

pub record Seen : Type 0 where
  pub answer : ℕ
  pub place : ℕ
  pub len : ℕ
  pub area : List ℕ
  pub values : List ℤ

abbrev sight : (DisplayBox → List ℤ) → Outcome → Seen
sight looks o = record { answer = number_of o.answer; place = answer_place o.answer; len = o.back.len; area = o.back.area; values = looks o.box }

-- what the step gives
abbrev pub seen : Row → Seen
seen r = sight r.looks (step (run box r.before) r.message)

-- what the row says: "A reply fills the front of the area; bytes after it keep what they held"
abbrev pub expected : Row → Seen
expected r = record { answer = r.answer; place = r.place; len = length r.reply; area = r.reply ++ drop (length r.reply) (area_of r.message); values = r.values }

-- ---- what a row looks at, place by place

abbrev nothing : DisplayBox → List ℤ
nothing b = []

abbrev volume : Panel → ℤ
volume p = pos (get_or p.w.settings 2 0)

-- the four volumes, that of the K panel's unused W settings too
abbrev volumes : DisplayBox → List ℤ
volumes b = map volume (take 4 b.panels)

-- the four flips
abbrev flips : DisplayBox → List ℤ
flips b = map (λ (p : Panel). pos (get_or p.w.settings flip_place 0)) (take 4 b.panels)

abbrev shift_h : DisplayBox → List ℤ
shift_h b = get_or (panel_at 0 b).w.shifts 0 (pos 0) ∷ []

abbrev balance : DisplayBox → List ℤ
balance b = map pos (panel_at 0 b).w.balance.gains ++ (panel_at 0 b).w.balance.biases

abbrev power : DisplayBox → List ℤ
power b = pos (panel_at 2 b).k.power ∷ []

-- ---- the messages

abbrev on_serial : List ℕ → Message
on_serial m = rs232c 1 m (lent 512)

-- `03 0B 53 4F 4E 59`, group, unit, request, `B0 00`, the data's length, and the data
abbrev pub packet : ℕ → ℕ → ℕ → ℕ → ℕ → List ℕ → List ℕ
packet group unit request high low body = 0x03 ∷ 0x0b ∷ 0x53 ∷ 0x4f ∷ 0x4e ∷ 0x59 ∷ group ∷ unit ∷ request ∷ 0xb0 ∷ 0x00 ∷ high ∷ low ∷ body

-- on link 1, to the link's own panel
abbrev pub on_tcp : ℕ → String → Message
on_tcp size text = tcp 1 (packet 0x00 0x00 0x00 0x00 size (ascii text)) (lent 512)

-- a KJW frame
abbrev pub line : String → List ℕ
line s = ascii s ++ (0x0a ∷ [])

abbrev on_kjw : String → Message
on_kjw s = kjw 3 (line s) (lent 512)

-- OK without data
abbrev ok : List ℕ
ok = 0x03 ∷ 0x0b ∷ 0x53 ∷ 0x4f ∷ 0x4e ∷ 0x59 ∷ 0x00 ∷ 0x00 ∷ 0x01 ∷ 0xb0 ∷ 0x00 ∷ 0x00 ∷ 0x00 ∷ []

abbrev pub volume40 : Message
volume40 = on_tcp 0x11 "STATset VOLUME 40"

abbrev power_on : Message
power_on = on_kjw "*SCPOWR0000000000000001"

-- a message at the start, of which the answer and the reply alone are looked at
abbrev says : Message → ℕ → List ℕ → Row
says m answer reply = record { before = []; message = m; answer = answer; place = 0; reply = reply; looks = nothing; values = [] }

-- a message at the start, and what the box then holds
abbrev leaves : Message → ℕ → List ℕ → (DisplayBox → List ℤ) → List ℤ → Row
leaves m answer reply looks values = record { before = []; message = m; answer = answer; place = 0; reply = reply; looks = looks; values = values }

-- a message at the start with a part of its envelope wrong: its number and place, NG or NAK, and the volumes as they were
abbrev blames : Message → ℕ → ℕ → List ℕ → Row
blames m answer place reply = record { before = []; message = m; answer = answer; place = place; reply = reply; looks = volumes; values = pos 30 ∷ pos 30 ∷ pos 30 ∷ pos 30 ∷ [] }

-- NG with the item's low byte, and NAK
abbrev ng : ℕ → List ℕ
ng item = 0x03 ∷ 0x0b ∷ 0x53 ∷ 0x4f ∷ 0x4e ∷ 0x59 ∷ 0x00 ∷ 0x00 ∷ 0x00 ∷ 0xb0 ∷ item ∷ 0x00 ∷ 0x02 ∷ 0xf0 ∷ 0x50 ∷ []

abbrev nak : List ℕ
nak = 0x02 ∷ 0x03 ∷ 0x41 ∷ 0x01 ∷ 0x05 ∷ 0xb6 ∷ []

-- the rows marked *
abbrev pub bench : List Row
bench =
    -- `02 03 01 41 6E 4D` at start: `02 04 41 01 7E 01 3B`
    says (on_serial (0x02 ∷ 0x03 ∷ 0x01 ∷ 0x41 ∷ 0x6e ∷ 0x4d ∷ [])) 0 (0x02 ∷ 0x04 ∷ 0x41 ∷ 0x01 ∷ 0x7e ∷ 0x01 ∷ 0x3b ∷ []) ∷
    -- `02 08 01 41 40 21 FF 0F 00 04 43`: R gain 4095, B bias -1024, `02 03 41 01 04 B7`
    leaves (on_serial (0x02 ∷ 0x08 ∷ 0x01 ∷ 0x41 ∷ 0x40 ∷ 0x21 ∷ 0xff ∷ 0x0f ∷ 0x00 ∷ 0x04 ∷ 0x43 ∷ [])) 0 (0x02 ∷ 0x03 ∷ 0x41 ∷ 0x01 ∷ 0x04 ∷ 0xb7 ∷ []) balance (pos 4095 ∷ pos 2048 ∷ pos 2048 ∷ pos 0 ∷ pos 0 ∷ negsuc 1023 ∷ []) ∷
    -- the first with last byte 4E: 5, `02 03 41 01 05 B6`; since document 02, §8, that 5 is 14, at the last byte
    blames (on_serial (0x02 ∷ 0x03 ∷ 0x01 ∷ 0x41 ∷ 0x6e ∷ 0x4e ∷ [])) 14 5 nak ∷
    -- `STATset VOLUME 40`: `03 0B 53 4F 4E 59 00 00 01 B0 00 00 00`
    leaves volume40 0 ok volumes (pos 40 ∷ pos 30 ∷ pos 30 ∷ pos 30 ∷ []) ∷
    -- then `STATget VOLUME`: length 9, `VOLUME 40`
    record { before = volume40 ∷ []; message = on_tcp 0x0e "STATget VOLUME"; answer = 0; place = 0; reply = packet 0x00 0x00 0x01 0x00 0x09 (ascii "VOLUME 40"); looks = volumes; values = pos 40 ∷ pos 30 ∷ pos 30 ∷ pos 30 ∷ [] } ∷
    -- VOLUME 100 is set; 101: 6, OK without data
    leaves (on_tcp 0x12 "STATset VOLUME 100") 0 ok volumes (pos 100 ∷ pos 30 ∷ pos 30 ∷ pos 30 ∷ []) ∷
    leaves (on_tcp 0x12 "STATset VOLUME 101") 6 ok volumes (pos 30 ∷ pos 30 ∷ pos 30 ∷ pos 30 ∷ []) ∷
    -- SHIFTH -30 is set; -31 and -0: 6
    leaves (on_tcp 0x12 "STATset SHIFTH -30") 0 ok shift_h (negsuc 29 ∷ []) ∷
    leaves (on_tcp 0x12 "STATset SHIFTH -31") 6 ok shift_h (pos 0 ∷ []) ∷
    leaves (on_tcp 0x11 "STATset SHIFTH -0") 6 ok shift_h (pos 0 ∷ []) ∷
    -- request 01h: 5, ending `00 B0 00 00 02 F0 50`; since §8 that 5 is 9, at the request
    blames (tcp 1 (packet 0x00 0x00 0x01 0x00 0x11 (ascii "STATset VOLUME 40")) (lent 512)) 9 8 (ng 0x00) ∷
    -- `*SCPOWR0000000000000001` and 0Ah from standby: answer and notice; again: answer alone
    leaves power_on 0 (line "*SAPOWR0000000000000000" ++ line "*SNPOWR0000000000000001") power (pos 1 ∷ []) ∷
    record { before = power_on ∷ []; message = power_on; answer = 0; place = 0; reply = line "*SAPOWR0000000000000000"; looks = power; values = pos 1 ∷ [] } ∷
    []

-- every row of the bench is what the step gives: its answer, its reply, the bytes behind it and what it left in the record
pub tried : map seen bench ≡ map expected bench
unfolding opened
tried = refl

-- to every W panel of a group: `03 0B 53 4F 4E 59`, group, FFh
abbrev to_group : ℕ → Message
to_group group = udp (packet group 0xff 0x00 0x00 0x11 (ascii "STATset VOLUME 40"))

-- as two consoles send it, with a space and 00h behind it
abbrev ended : ℕ → ℕ → List ℕ
ended group unit = packet group unit 0x00 0x00 0x13 (ascii "STATset VOLUME 40" ++ (0x20 ∷ 0x00 ∷ []))

-- FLIPHV ON to the W panels of group 1
abbrev flipped_hv : Message
flipped_hv = udp (packet 0x01 0xff 0x00 0x00 0x11 (ascii "STATset FLIPHV ON"))

-- words to every W panel
abbrev to_all : ℕ → List ℕ → Message
to_all size words = udp (packet 0xff 0xff 0x00 0x00 size words)

abbrev remote_asked : ℕ → ℕ → Message
remote_asked link room = rs232c link (0x02 ∷ 0x03 ∷ 0x01 ∷ 0x41 ∷ 0x6e ∷ 0x4d ∷ []) (lent room)

-- "STATset VOLUME 40" on link 1 behind an item that ends in a byte, a request, and a data length
abbrev on_item : ℕ → ℕ → ℕ → ℕ → Message
on_item item request high low = tcp 1 (0x03 ∷ 0x0b ∷ 0x53 ∷ 0x4f ∷ 0x4e ∷ 0x59 ∷ 0x00 ∷ 0x00 ∷ request ∷ 0xb0 ∷ item ∷ high ∷ low ∷ ascii "STATset VOLUME 40") (lent 512)

-- rows that are not marked *, and whom a message reaches
abbrev pub more : List Row
more =
    -- community `sony`: 4
    says (tcp 1 (0x03 ∷ 0x0b ∷ 0x73 ∷ 0x6f ∷ 0x6e ∷ 0x79 ∷ 0x00 ∷ 0x00 ∷ 0x00 ∷ 0xb0 ∷ 0x00 ∷ 0x00 ∷ 0x11 ∷ ascii "STATset VOLUME 40") (lent 512)) 4 [] ∷
    -- data length 499 in 512 bytes passes the envelope; 500 in 513: 5, which is 11 since §8
    says (tcp 1 (packet 0x00 0x00 0x00 0x01 0xf3 (replicate 499 0x41)) (lent 512)) 6 ok ∷
    blames (tcp 1 (packet 0x00 0x00 0x00 0x01 0xf4 (replicate 500 0x41)) (lent 512)) 11 11 (ng 0x00) ∷
    -- 40h with a data byte too few: 6, and nothing is applied
    leaves (on_serial (0x02 ∷ 0x06 ∷ 0x01 ∷ 0x41 ∷ 0x40 ∷ 0x21 ∷ 0xff ∷ 0x0f ∷ 0x49 ∷ [])) 6 (0x02 ∷ 0x03 ∷ 0x41 ∷ 0x01 ∷ 0x05 ∷ 0xb6 ∷ []) balance (pos 2048 ∷ pos 2048 ∷ pos 2048 ∷ pos 0 ∷ pos 0 ∷ pos 0 ∷ []) ∷
    -- port 0000: 6
    says (on_kjw "*SCINPT0000000100000000") 6 (line "*SAINPTFFFFFFFFFFFFFFFF") ∷
    -- by UDP with group 1 and unit FFh: the W panels of group 1 and no others, and no reply
    leaves (to_group 1) 0 [] volumes (pos 40 ∷ pos 40 ∷ pos 30 ∷ pos 30 ∷ []) ∷
    -- our Tuesday night: unit FFh with group 2 leaves the panels of group 1 as they were
    leaves (to_group 2) 0 [] volumes (pos 30 ∷ pos 30 ∷ pos 30 ∷ pos 40 ∷ []) ∷
    -- FFh/FFh is every W panel; a group that no W panel has: 4
    leaves (to_group 0xff) 0 [] volumes (pos 40 ∷ pos 40 ∷ pos 30 ∷ pos 40 ∷ []) ∷
    leaves (to_group 3) 4 [] volumes (pos 30 ∷ pos 30 ∷ pos 30 ∷ pos 30 ∷ []) ∷
    -- document 02, §2: a space and 00h behind the words are taken off, by TCP and by UDP
    leaves (tcp 1 (ended 0x00 0x00) (lent 512)) 0 ok volumes (pos 40 ∷ pos 30 ∷ pos 30 ∷ pos 30 ∷ []) ∷
    leaves (udp (ended 0x01 0xff)) 0 [] volumes (pos 40 ∷ pos 40 ∷ pos 30 ∷ pos 30 ∷ []) ∷
    -- document 02, §4: the last ON is the flip, not both; OFF for another word leaves it; OFF for its own ends it
    record { before = on_tcp 0x10 "STATset FLIPH ON" ∷ on_tcp 0x10 "STATset FLIPV ON" ∷ []; message = on_tcp 0x0d "STATget FLIPH"; answer = 0; place = 0; reply = packet 0x00 0x00 0x01 0x00 0x09 (ascii "FLIPH OFF"); looks = flips; values = pos 2 ∷ pos 0 ∷ pos 0 ∷ pos 0 ∷ [] } ∷
    record { before = flipped_hv ∷ []; message = on_tcp 0x11 "STATset FLIPH OFF"; answer = 0; place = 0; reply = ok; looks = flips; values = pos 3 ∷ pos 3 ∷ pos 0 ∷ pos 0 ∷ [] } ∷
    record { before = flipped_hv ∷ []; message = on_tcp 0x12 "STATset FLIPHV OFF"; answer = 0; place = 0; reply = ok; looks = flips; values = pos 0 ∷ pos 3 ∷ pos 0 ∷ pos 0 ∷ [] } ∷
    -- document 02, §5: by UDP a question is 8, with any name or none, and what only looks like one is 6
    leaves (to_all 0x0e (ascii "STATget VOLUME")) 8 [] volumes (pos 30 ∷ pos 30 ∷ pos 30 ∷ pos 30 ∷ []) ∷
    says (to_all 0x0f (ascii "STATget NOTHING")) 8 [] ∷
    says (to_all 0x07 (ascii "STATget")) 8 [] ∷
    says (to_all 0x08 (ascii "STATget ")) 8 [] ∷
    says (to_all 0x08 (ascii "STATget" ++ (0x00 ∷ []))) 8 [] ∷
    says (to_all 0x0d (ascii "STATgetVOLUME")) 6 [] ∷
    says (to_all 0x0f (ascii " STATget VOLUME")) 6 [] ∷
    says (to_all 0x12 (ascii "STATset VOLUME 101")) 6 [] ∷
    -- a wrong envelope, 4 and 3 come before it
    blames (to_all 0x0d (ascii "STATget VOLUME")) 12 11 [] ∷
    says (udp (packet 0x03 0xff 0x00 0x00 0x0e (ascii "STATget VOLUME"))) 4 [] ∷
    says (udp (0x03 ∷ 0x0b ∷ 0x53 ∷ 0x4f ∷ 0x4e ∷ 0x59 ∷ 0xff ∷ 0xff ∷ 0x00 ∷ 0xb0 ∷ 0x00 ∷ 0x00 ∷ [])) 3 [] ∷
    -- and by TCP nothing changes
    says (on_tcp 0x0f "STATget NOTHING") 6 ok ∷
    -- document 02, §8: item, data length, byte count and checksum, each with its place, and of two wrong parts the first
    blames (on_item 0x01 0x00 0x00 0x11) 10 9 (ng 0x01) ∷
    blames (on_item 0x00 0x00 0x00 0x10) 12 11 (ng 0x00) ∷
    blames (on_item 0x01 0x01 0x00 0x11) 9 8 (ng 0x01) ∷
    blames (on_item 0x01 0x00 0xff 0xff) 10 9 (ng 0x01) ∷
    blames (on_item 0x00 0x00 0xff 0xff) 11 11 (ng 0x00) ∷
    blames (on_serial (0x02 ∷ 0x04 ∷ 0x01 ∷ 0x41 ∷ 0x6e ∷ 0x4c ∷ [])) 13 1 nak ∷
    blames (on_serial (0x02 ∷ 0x04 ∷ 0x01 ∷ 0x41 ∷ 0x6e ∷ 0x4e ∷ [])) 13 1 nak ∷
    blames (on_serial (0x02 ∷ 0x08 ∷ 0x01 ∷ 0x41 ∷ 0x40 ∷ 0x21 ∷ 0xff ∷ 0x0f ∷ 0x00 ∷ 0x04 ∷ 0x44 ∷ [])) 14 10 nak ∷
    -- by UDP too, and behind 4
    blames (udp (packet 0xff 0xff 0x01 0x00 0x11 (ascii "STATset VOLUME 40"))) 9 8 [] ∷
    says (udp (packet 0x03 0xff 0x01 0x00 0x11 (ascii "STATset VOLUME 40"))) 4 [] ∷
    -- by TCP on link 4 to the pair 1/2: that panel acts, and the reply is in the link's area
    leaves (tcp 4 (packet 0x01 0x02 0x00 0x00 0x11 (ascii "STATset VOLUME 40")) (lent 600)) 0 (packet 0x01 0x02 0x01 0x00 0x00 []) volumes (pos 30 ∷ pos 40 ∷ pos 30 ∷ pos 30 ∷ []) ∷
    -- the pair 2/2, which no panel has: 4
    leaves (tcp 4 (packet 0x02 0x02 0x00 0x00 0x11 (ascii "STATset VOLUME 40")) (lent 512)) 4 [] volumes (pos 30 ∷ pos 30 ∷ pos 30 ∷ pos 30 ∷ []) ∷
    -- no panel with that link number, or of the other family: 2
    says (remote_asked 0 512) 2 [] ∷
    says (remote_asked 9 512) 2 [] ∷
    says (remote_asked 18446744073709551615 512) 2 [] ∷
    says (remote_asked 3 512) 2 [] ∷
    -- an area of 511 bytes: 1, before a link that is wrong
    says (remote_asked 9 511) 1 [] ∷
    []

-- and so is every one of these
pub tried_more : map seen more ≡ map expected more
unfolding opened
tried_more = refl
