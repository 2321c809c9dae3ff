-- Behind the envelope a message is understood or it is not: by the rungs of what each protocol hears, whatever the panel.
use Prim.Native.Nat.{ℕ, ◌-◌}
use mathlib.Core.Path.{◌≡◌, refl, sym, ◌∙◌}
use mathlib.Core.Bool.{Bool, true, false, not, cond, ◌||◌}
use mathlib.Core.List.{List, [], ◌∷◌}
use lib.Dec.{eqb, ltb}
use lib.ListN.{length, get_or, drop}
use Rattle.std.specs.Prelude.{Option, Some, None, Result, Ok, Err, ok_or}
use Rattle.laws.specs.Bytes.{part}
use Rattle.laws.proofs.Conditions.{false_true}
use Rattle.terms.specs.Answers.{part_number, number_of}
use Rattle.terms.specs.declared.Part.{Part}
use Rattle.terms.specs.declared.Part.TheVariants.{Request, Item, TooLong, NotMatching, Count, Checksum}
use Rattle.terms.specs.declared.Answer.{Answer}
use Rattle.terms.specs.declared.Answer.TheVariants.{WrongLength, NotForUs}
use Rattle.panels.specs.declared.WRecord.{WRecord}
use Rattle.panels.specs.declared.KRecord.{KRecord}
use Rattle.vmc_asks.specs.Asks.{read_data}
use Rattle.vmc_asks.specs.declared.Order as wordOrder
use Rattle.rs232c_asks.specs.Asks as serialAsks
use Rattle.rs232c_asks.proofs.Envelopes as serialEnvelopes
use Rattle.rs232c.specs.Replies as serial
use Rattle.rs232c_asks.specs.declared.Order as serialOrder
use Rattle.sdcp_asks.specs.Asks as packetAsks
use Rattle.sdcp.specs.Replies as packets
use Rattle.sdcp_asks.specs.declared.Fault.TheVariants as packetIs
use Rattle.kjw.specs.Replies as frames
use Rattle.steps.specs.Step.{checks}
use Rattle.kjw_asks.specs.Asks as frameAsks
use Rattle.kjw_asks.specs.Frames.{letters_of, type_control}
use Rattle.kjw_sets.specs.declared.Order as frameOrder
use Rattle.kjw_asks.specs.declared.Fault as frameFault
use Rattle.kjw_asks.specs.declared.Fault.TheVariants as frameIs

-- the number of the first of some conditions that holds; 0 where none does
abbrev pub first_of : List ℕ → List Bool → ℕ
first_of [] cs = 0
first_of (n ∷ ns) [] = 0
first_of (n ∷ ns) (c ∷ cs) = cond c n (first_of ns cs)

-- the checks that a protocol makes: those behind 1 and 2
abbrev pub own_checks : List ℕ
own_checks = drop 2 checks

-- ---- RS-232C

-- what was heard is not understood
abbrev pub unclear_order : Result serialOrder.Order Answer → Bool
unclear_order (Ok o) = false
unclear_order (Err a) = eqb (number_of a) 6

abbrev pub serial_unclear : serialAsks.Heard → Bool
serial_unclear (Err a) = false
serial_unclear (Ok x) = unclear_order x.order

-- "Under 6 bytes: 3. First byte not 02h, destination not 01h, or source outside 41h to 7Fh: 4.", then document 02, §8, "13 byte count, 14 checksum",
-- and 6 where the command is not understood
abbrev pub serial_conditions : List ℕ → List Bool
serial_conditions m =
    ltb (length m) 6 ∷ serialAsks.is_foreign m ∷ false ∷ false ∷ false ∷ false ∷ serialAsks.count_wrong m ∷ serialAsks.sum_wrong m ∷ false
    ∷ serial_unclear (serialAsks.heard_of m) ∷ []

abbrev order_number : Result serialOrder.Order Answer → ℕ
order_number (Ok o) = 0
order_number (Err a) = number_of a

abbrev serial_number : serialAsks.Heard → ℕ
serial_number (Err a) = number_of a
serial_number (Ok x) = order_number x.order

-- the ladder of what is heard of a frame, by its conditions
abbrev serial_rungs : Bool → Bool → Bool → Bool → ℕ → ℕ → Option serialOrder.Order → serialAsks.Heard
serial_rungs a b c d s at o = cond a (Err WrongLength) (cond b (Err NotForUs) (serialAsks.from_source s (serialAsks.unless_wrong (cond c (Err Count) (cond d (Err (Checksum at)) (Ok tt))) o)))

serial_heard : (m : List ℕ) → serial_number (serialAsks.heard_of m) ≡ first_of own_checks (serial_conditions m)
unfolding serialAsks.heard_of serialAsks.order_of serialAsks.envelope_of
serial_heard m = go (ltb (length m) 6) (serialAsks.is_foreign m) (serialAsks.count_wrong m) (serialAsks.sum_wrong m) (serialAsks.source_of m) (length m - 1) (serialAsks.command_of (serialAsks.code_of m) (serialAsks.data_of m))
  where
    go : (a b c d : Bool) (s at : ℕ) (o : Option serialOrder.Order) → serial_number (serial_rungs a b c d s at o) ≡ first_of own_checks (a ∷ b ∷ false ∷ false ∷ false ∷ false ∷ c ∷ d ∷ false ∷ serial_unclear (serial_rungs a b c d s at o) ∷ [])
    go true b c d s at o = refl
    go false true c d s at o = refl
    go false false true d s at o = refl
    go false false false true s at o = refl
    go false false false false s at (Some o) = refl
    go false false false false s at None = refl

serial_replied : (s : ℕ) (o : Result serialOrder.Order Answer) (vs : List ℕ) (w : WRecord) → number_of (serial.replied s o vs w).answer ≡ order_number o
serial_replied s (Ok o) vs w = refl
serial_replied s (Err a) vs w = refl

serial_turned : (h : serialAsks.Heard) (vs : List ℕ) (w : WRecord) → number_of (serial.turned h vs w).answer ≡ serial_number h
unfolding serial.turned
serial_turned (Err a) vs w = refl
serial_turned (Ok x) vs w = serial_replied x.source x.order vs w

-- the number of the answer to a frame
pub serial_answered : (m : List ℕ) (w : WRecord) → number_of (serial.turn_of m w).answer ≡ first_of own_checks (serial_conditions m)
serial_answered m w = serial_turned (serialAsks.heard_of m) (serialAsks.values_of m) w ∙ serial_heard m

-- condition 6 in words of what was heard; past the envelope nothing is refused or broken, so without it an order is understood
pub serial_unclear_lem : (m : List ℕ) → serial_unclear (serialAsks.heard_of m) ≡ true → (s : ℕ) × (serialAsks.heard_of m ≡ serialAsks.not_understood s)
serial_unclear_lem m =
    serialEnvelopes.by_rungs (λ (h : serialAsks.Heard). serial_unclear h ≡ true → (s : ℕ) × (h ≡ serialAsks.not_understood s)) m
    (λ u. absurd (false_true u)) (λ u. absurd (false_true u)) (λ p w u. absurd (part_is_six p u)) (λ n u. (serialAsks.source_of m, refl)) (λ o n u. absurd (false_true u))
  where
    part_is_six : (p : Part) → eqb (part_number p) 6 ≡ true → ⊥
    part_is_six Request u = false_true u
    part_is_six Item u = false_true u
    part_is_six TooLong u = false_true u
    part_is_six NotMatching u = false_true u
    part_is_six Count u = false_true u
    part_is_six (Checksum place) u = false_true u

pub serial_clear : (m : List ℕ) → ltb (length m) 6 ≡ false → serialAsks.is_foreign m ≡ false → serialAsks.envelope_of m ≡ Ok tt → serial_unclear (serialAsks.heard_of m) ≡ false → (s : ℕ) × (o : serialOrder.Order) × (serialAsks.heard_of m ≡ serialAsks.understood s o)
unfolding serialAsks.heard_of serialAsks.order_of
serial_clear m a b c = rw (a, b, c) (go (serialAsks.source_of m) (serialAsks.command_of (serialAsks.code_of m) (serialAsks.data_of m)))
  where
    go : (s : ℕ) (o : Option serialOrder.Order) → serial_unclear (serialAsks.from_source s (serialAsks.ordered o)) ≡ false
        → (t : ℕ) × (p : serialOrder.Order) × (serialAsks.from_source s (serialAsks.ordered o) ≡ serialAsks.understood t p)
    go s (Some o) u = (s, o, refl)
    go s None u = absurd (false_true (sym u))

-- ---- SDCP

abbrev pub packet_unclear : packetAsks.Heard → Bool
packet_unclear (Err (packetIs.Refused a)) = false
packet_unclear (Err (packetIs.Broken p)) = false
packet_unclear (Err packetIs.NotUnderstood) = true
packet_unclear (Ok o) = false

-- "Under 13 bytes: 3. Wrong version, category or community, or no panel addressed: 4.", then document 02, §8, "9 request, 10 item, 11 over 499, 12 not
-- matching", 8 where a status is asked for that may not be, and 6 where the words are not understood
abbrev pub packet_conditions : Bool → Bool → List ℕ → List Bool
packet_conditions nobody asked m =
    ltb (length m) 13 ∷ (not (packetAsks.is_ours m) || nobody) ∷ packetAsks.request_wrong m ∷ packetAsks.item_wrong m ∷ packetAsks.too_long m
    ∷ packetAsks.not_matching m ∷ false ∷ false ∷ asked ∷ packet_unclear (packetAsks.heard_of m) ∷ []

abbrev PacketJudged : packetAsks.Heard → Type 0
PacketJudged (Err (packetIs.Refused a)) = ⊥
PacketJudged (Err (packetIs.Broken p)) = ⊥
PacketJudged (Err packetIs.NotUnderstood) = Unit {0}
PacketJudged (Ok o) = Unit {0}

packet_number : (asked : Bool) (h : packetAsks.Heard) → PacketJudged h → number_of (packets.answer_of (packetAsks.unless_status asked h)) ≡ cond asked 8 (cond (packet_unclear h) 6 0)
packet_number asked (Err (packetIs.Refused a)) j = absurd j
packet_number asked (Err (packetIs.Broken p)) j = absurd j
packet_number true (Err packetIs.NotUnderstood) j = refl
packet_number false (Err packetIs.NotUnderstood) j = refl
packet_number true (Ok o) j = refl
packet_number false (Ok o) j = refl

words_judged : (x : Option wordOrder.Order) → PacketJudged (packetAsks.in_words x)
words_judged (Some o) = tt
words_judged None = tt

-- the ladder of what is heard of a packet, by its conditions
abbrev packet_rungs : Bool → Bool → Bool → Bool → Bool → Bool → packetAsks.Heard → packetAsks.Heard
packet_rungs a b q i l n h =
    cond a (Err (packetIs.Refused WrongLength)) (cond b (Err (packetIs.Refused NotForUs))
    (packetAsks.unless_wrong (cond q (Err Request) (cond i (Err Item) (cond l (Err TooLong) (cond n (Err NotMatching) (Ok tt))))) h))

-- the number of the answer to a packet, whatever the panel, and whether or not a status is refused
pub packet_answered : (m : List ℕ) (asked : Bool) → number_of (packets.answer_of (packetAsks.unless_status asked (packetAsks.heard_of m))) ≡ first_of own_checks (packet_conditions false asked m)
unfolding packetAsks.heard_of packetAsks.envelope_of
packet_answered m asked =
    go (ltb (length m) 13) (not (packetAsks.is_ours m)) (packetAsks.request_wrong m) (packetAsks.item_wrong m) (packetAsks.too_long m) (packetAsks.not_matching m) _
    (words_judged (read_data (packetAsks.data_of m)))
  where
    go : (a b q i l n : Bool) (h : packetAsks.Heard) → PacketJudged h → number_of (packets.answer_of (packetAsks.unless_status asked (packet_rungs a b q i l n h))) ≡ first_of own_checks (a ∷ (b || false) ∷ q ∷ i ∷ l ∷ n ∷ false ∷ false ∷ asked ∷ packet_unclear (packet_rungs a b q i l n h) ∷ [])
    go true b q i l n h j = refl
    go false true q i l n h j = refl
    go false false true i l n h j = refl
    go false false false true l n h j = refl
    go false false false false true n h j = refl
    go false false false false false true h j = refl
    go false false false false false false h j = packet_number asked h j

pub packet_unclear_lem : (m : List ℕ) → packet_unclear (packetAsks.heard_of m) ≡ true → packetAsks.heard_of m ≡ Err packetIs.NotUnderstood
packet_unclear_lem m = go (packetAsks.heard_of m)
  where
    go : (h : packetAsks.Heard) → packet_unclear h ≡ true → h ≡ Err packetIs.NotUnderstood
    go (Err (packetIs.Refused a)) u = absurd (false_true u)
    go (Err (packetIs.Broken p)) u = absurd (false_true u)
    go (Err packetIs.NotUnderstood) u = refl
    go (Ok o) u = absurd (false_true u)

pub packet_clear : (m : List ℕ) → ltb (length m) 13 ≡ false → packetAsks.is_ours m ≡ true → packetAsks.envelope_of m ≡ Ok tt → packet_unclear (packetAsks.heard_of m) ≡ false → (o : wordOrder.Order) × (packetAsks.heard_of m ≡ Ok o)
unfolding packetAsks.heard_of
packet_clear m a b c = rw (a, b, c) (go _ (words_judged (read_data (packetAsks.data_of m))))
  where
    go : (h : packetAsks.Heard) → PacketJudged h → packet_unclear h ≡ false → (o : wordOrder.Order) × (h ≡ Ok o)
    go (Err (packetIs.Refused a)) j u = absurd j
    go (Err (packetIs.Broken p)) j u = absurd j
    go (Err packetIs.NotUnderstood) j u = absurd (false_true (sym u))
    go (Ok o) j u = (o, refl)

-- ---- KJW

abbrev pub frame_unclear : Result frameOrder.Order frameFault.Fault → Bool
frame_unclear (Err (frameIs.Refused a)) = false
frame_unclear (Err frameIs.NotUnderstood) = true
frame_unclear (Ok o) = false

-- "Other length: 3. Wrong `*S`, footer, or a type not C or E: 4. [..] All else: 6.": there is no envelope to be wrong
abbrev pub frame_conditions : List ℕ → List Bool
frame_conditions m =
    not (eqb (length m) 24) ∷ not (frameAsks.is_ours m) ∷ false ∷ false ∷ false ∷ false ∷ false ∷ false ∷ false
    ∷ frame_unclear (frameAsks.heard_of m) ∷ []

abbrev frame_number : Result frameOrder.Order frameFault.Fault → ℕ
frame_number (Err (frameIs.Refused a)) = number_of a
frame_number (Err frameIs.NotUnderstood) = 6
frame_number (Ok o) = 0

-- what a frame of ours orders, if anything
abbrev frame_order : List ℕ → Option frameOrder.Order
frame_order m = cond (eqb (get_or m 2 0) type_control) (frameAsks.control_of (letters_of m) (part 7 16 m)) (frameAsks.enquiry_of (letters_of m) (part 7 16 m))

abbrev frame_hears : Option frameOrder.Order → Result frameOrder.Order frameFault.Fault
frame_hears o = ok_or o frameIs.NotUnderstood

frame_judged : (o : Option frameOrder.Order) → frame_number (frame_hears o) ≡ cond (frame_unclear (frame_hears o)) 6 0
frame_judged None = refl
frame_judged (Some o) = refl

frame_heard : (m : List ℕ) → frame_number (frameAsks.heard_of m) ≡ first_of own_checks (frame_conditions m)
unfolding frameAsks.heard_of
frame_heard m = go (not (eqb (length m) 24)) (not (frameAsks.is_ours m)) (frame_order m)
  where
    go : (a b : Bool) (o : Option frameOrder.Order) → frame_number (cond a (Err (frameIs.Refused WrongLength)) (cond b (Err (frameIs.Refused NotForUs)) (frame_hears o))) ≡ first_of own_checks (a ∷ b ∷ false ∷ false ∷ false ∷ false ∷ false ∷ false ∷ false ∷ frame_unclear (cond a (Err (frameIs.Refused WrongLength)) (cond b (Err (frameIs.Refused NotForUs)) (frame_hears o))) ∷ [])
    go true b o = refl
    go false true o = refl
    go false false o = frame_judged o

frame_turned : (h : Result frameOrder.Order frameFault.Fault) (k : KRecord) → number_of (frames.decided k h).answer ≡ frame_number h
unfolding frames.decided
frame_turned (Err (frameIs.Refused a)) k = refl
frame_turned (Err frameIs.NotUnderstood) k = refl
frame_turned (Ok o) k = refl

-- the number of the answer to a frame
pub frame_answered : (m : List ℕ) (k : KRecord) → number_of (frames.turn_of m k).answer ≡ first_of own_checks (frame_conditions m)
unfolding frames.turn_of
frame_answered m k = frame_turned (frameAsks.heard_of m) k ∙ frame_heard m

pub frame_unclear_lem : (m : List ℕ) → frame_unclear (frameAsks.heard_of m) ≡ true → frameAsks.heard_of m ≡ Err frameIs.NotUnderstood
frame_unclear_lem m = go (frameAsks.heard_of m)
  where
    go : (h : Result frameOrder.Order frameFault.Fault) → frame_unclear h ≡ true → h ≡ Err frameIs.NotUnderstood
    go (Err (frameIs.Refused a)) u = absurd (false_true u)
    go (Err frameIs.NotUnderstood) u = refl
    go (Ok o) u = absurd (false_true u)

pub frame_clear : (m : List ℕ) → eqb (length m) 24 ≡ true → frameAsks.is_ours m ≡ true → frame_unclear (frameAsks.heard_of m) ≡ false → (o : frameOrder.Order) × (frameAsks.heard_of m ≡ Ok o)
unfolding frameAsks.heard_of
frame_clear m a b = rw (a, b) (go (frame_order m))
  where
    go : (o : Option frameOrder.Order) → frame_unclear (frame_hears o) ≡ false → (o' : frameOrder.Order) × (frame_hears o ≡ Ok o')
    go None u = absurd (false_true (sym u))
    go (Some o) u = (o, refl)
