-- No order on the box alone writes more than there is room for: a number has at most ten digits, a name with its value twenty bytes, an
-- entry of a list 22, a reply 48.
use Prim.Native.Nat.{ℕ, zero, suc, ◌+◌, ◌*◌, ◌-◌, ◌^◌, ◌≤◌}
use mathlib.Core.Path.{◌≡◌, refl, ap}
use mathlib.Core.Bool.{Bool, cond}
use mathlib.Core.List.{List, [], ◌∷◌}
use native.Mathlib.Omega.{arith}
use lib.Dec.{eqb, leb, ltb}
use lib.IntN.{ℤ, pos, negsuc}
use lib.ListN.{length, get_or, take, drop, length-append, length-take}
use borrow.Author.Tests.{leb-true}
use Rattle.laws.specs.Bytes.{ascii}
use Rattle.laws.specs.Lists.{every}
use Rattle.laws.proofs.Conditions.{choose}
use Rattle.laws.proofs.Lists.{listed_every}
use Rattle.laws.proofs.Numbers.{length_in_bytes}
use Rattle.std.specs.Prelude.{Result, Ok as Done, Err as Failed}
use Rattle.terms.specs.Answers.{number_of, answer_place}
use Rattle.terms.specs.declared.Answer.{Answer}
use Rattle.sums.specs.Sums.{sums_to_zero}
use Rattle.decimals.specs.Decimals.{in_digits, numeral}
use Rattle.decimals.specs.Plain.{width_from, width, plain}
use Rattle.turns.specs.Turns.{Turn, taken}
use Rattle.turns.proofs.Turns.{either as either-turn}
use Rattle.panels.specs.Records.{family_w, connectors}
use Rattle.configure.specs.Configure.{configured}
use Rattle.panels.specs.declared.Inputs.{Inputs}
use Rattle.panels.specs.declared.Balance.{Balance}
use Rattle.panels.specs.declared.WRecord.{WRecord}
use Rattle.panels.specs.declared.KRecord.{KRecord}
use Rattle.panels.specs.declared.Panel.{Panel}
use Rattle.panels.specs.declared.DisplayBox.{DisplayBox}
use Rattle.setting_texts.specs.Names.{lead_of, word_of}
use Rattle.setting_texts.proofs.Sizes.{short_lead_lem, short_word_lem}
use Rattle.vmc.specs.Orders.{says_of}
use Rattle.vmc_tells.specs.Texts.{size_of, sign_of, value_words, shift_words, set_words, move_words, text_of}
use Rattle.vmc_asks.specs.declared.Order.TheVariants.{Get}
use Rattle.vmc_tells.specs.declared.Says.{Says}
use Rattle.vmc_tells.specs.declared.Says.TheVariants.{Bare, Value, Offset}
use Rattle.vmc_tells.proofs.Phrases.{numeral_short}
use Rattle.rs232c.specs.Replies as serial
use Rattle.rs232c_tells.specs.Texts as serialTexts
use Rattle.rs232c_tells.specs.declared.Reply.{Reply as SerialReply}
use Rattle.rs232c_tells.specs.declared.Reply.TheVariants.{Ack, Nak, State, Balances}
use Rattle.kjw.specs.Replies as frames
use Rattle.kjw.proofs.Notices.{reply_length}
use Rattle.sdcp_asks.specs.Asks.{heard_of, cast_of}
use Rattle.sdcp.specs.Replies as packets
use Rattle.sdcp_asks.specs.Asks.{Heard as PacketHeard}
use Rattle.sdcp_asks.specs.declared.Fault.TheVariants as packetIs
use Rattle.sdcp.specs.declared.Reply.{Reply as PacketReply}
use Rattle.rs232c_asks.specs.Asks as serialAsks
use Rattle.rs232c_asks.specs.declared.Order.{Order as SerialOrder}
use Rattle.sdcp.specs.declared.Reply.TheVariants.{Silent as None, Ng, Ok}
use Rattle.steps.specs.Messages.{Message, rs232c, kjw, tcp, udp, names}
use Rattle.steps.specs.Step.{turn, back, passed, refused, door, panel_at, step}
use Rattle.steps.specs.Step as steps
use Rattle.sdap.specs.Layout.{fields_of, no_fields}
use Rattle.sdap.specs.Rules.{read_of, read_answer, write_answer, area_after}
use Rattle.sdap.specs.declared.Advert.{Advert as Fields}
use Rattle.sdap.specs.declared.Read.{Read}
use Rattle.reader.specs.declared.Listing.{Listing}
use Rattle.reader.specs.Plain.{plain as listed}
use Rattle.reader.proofs.Listed.{listed_few}
use Rattle.script_words.specs.Words.{number_at, bytes_at}
use Rattle.script_words.specs.Kinds.{most_n, most_area}
use Rattle.script_boxes.specs.Boxes.{configuration_of}
use Rattle.script_lines.specs.declared.BoxOrder.{BoxOrder}
use Rattle.script_lines.specs.declared.BoxOrder.TheVariants.{Passed, Unread, Box, Rs232, Kjw, Tcp, Udp, Show, Advert, Write, Sum, Plain}
use Rattle.script_text.specs.Texts.{pairs, hex_text, number_text, bytes_text, signed_text, spoiled_by, at_text, placed_text, reply_text}
use Rattle.script_show.specs.Shown.{shown_names, settings_text, w_text, panel_text}
use Rattle.script_parts.specs.Parts.{on_text, inputs_text, scene_text, input_text, mutes_text, k_text}
use Rattle.script_balance.specs.Balance.{gains_text, bias_text, biases_text, balance_text}
use Rattle.script_fields.specs.Fields.{head_text, addresses_text, tail_text, advert_text}
use Rattle.script_write.specs.Wanted.{wanted}
use Rattle.script_answers.specs.Answers.{writes, filler, answer_text, replied}
use Rattle.script_bytes.specs.Bytes.{read_text, filled, wrote, summed}
use Rattle.script_listings.specs.Listings.{entry_text, entries_text, end_text, plain_text}
use Rattle.script_panels.specs.Panels.{boxed, is_there, shown_at}
use Rattle.script_messages.specs.Messages.{stepped, messaged, spread}
use Rattle.script_orders.specs.Orders.{ordered}
use Rattle.addresses.specs.declared.Line.{Line}
use Rattle.addresses.specs.declared.Line.TheVariants as lines
use Rattle.ways_in.specs.Promise.{message_of}
use Rattle.script_room.specs.Room.{room}

-- ---- numbers and bytes

digits_length : (n v : ℕ) → length (in_digits n v) ≡ n
unfolding in_digits
digits_length zero v = refl
digits_length (suc n) v = ap suc (digits_length n v)

width_most : (n k v : ℕ) → width_from n k v ≤ k + n
unfolding width_from
width_most zero k v = omega arith
width_most (suc n) k v =
    let r = width_most n (suc k) v in
    choose (λ (w : ℕ). w ≤ k + suc n) (ltb v (10 ^ k)) k (width_from n (suc k) v) (λ e. omega arith) (λ e. omega (arith, r))

plain_fits : (v : ℕ) → length (plain v) ≤ 10
unfolding plain width
plain_fits v =
    let l = digits_length (width_from 9 1 v) v in
    let w = width_most 9 1 v in
    omega (arith, l, w)

pub said_fits : (word : List ℕ) (v : ℕ) → length (number_text word v) ≤ length word + 10
unfolding number_text
said_fits word v = let p = plain_fits v in let l = length-append word (plain v) in omega (arith, l, p)

pairs_length : (l : List ℕ) → length (pairs l) ≡ 2 * length l
unfolding pairs
pairs_length [] = refl
pairs_length (b ∷ l) = let r = pairs_length l in omega (arith, r)

hex_fits : (l : List ℕ) → length (hex_text l) ≤ 2 * length l + 1
unfolding hex_text
hex_fits [] = omega arith
hex_fits (b ∷ l) = let r = pairs_length (b ∷ l) in omega (arith, r)

pub told_fits : (word bytes : List ℕ) → length (bytes_text word bytes) ≤ length word + (2 * length bytes + 1)
unfolding bytes_text
told_fits word bytes = let h = hex_fits bytes in let l = length-append word (hex_text bytes) in omega (arith, l, h)

signed_fits : (z : ℤ) → length (signed_text z) ≤ 11
unfolding signed_text
signed_fits (pos n) = let r = plain_fits n in omega (arith, r)
signed_fits (negsuc n) = said_fits (ascii "-") (n + 1)

either : (b : Bool) (s t : List ℕ) (n : ℕ) → length s ≤ n → length t ≤ n → length (cond b s t) ≤ n
either b s t n p q = choose (λ (l : List ℕ). length l ≤ n) b s t (λ e. p) (λ e. q)

taken_fits : (n : ℕ) (l : List ℕ) → length (take n l) ≤ n
taken_fits n l = simp length-take (omega arith)

spoiled_fits : (rest : List ℕ) → length (spoiled_by rest) ≤ 8
unfolding spoiled_by
spoiled_fits rest = either (every (eqb 0xa5) rest) [] (ascii " spoiled") 8 (omega arith) (omega arith)

placed_fits : (answer place : ℕ) → length (placed_text answer place) ≤ 31
unfolding placed_text at_text
placed_fits answer place =
    let a = said_fits (ascii "answer ") answer in
    let p = either (eqb place 0) [] (number_text (ascii " at ") place) 14 (omega arith) (said_fits (ascii " at ") place) in
    simp length-append (omega (arith, a, p))

pub replied_short : (a : Answer) (n : ℕ) (area : List ℕ) → length (replied a n area) ≤ 2 * n + 47
unfolding replied reply_text
replied_short a n area =
    let x = placed_fits (number_of a) (answer_place a) in
    let y = told_fits (ascii " reply ") (take n area) in
    let t = taken_fits n area in
    let z = spoiled_fits (drop n area) in
    simp length-append (omega (arith, x, y, t, z))

replied_fits : (a : Answer) (n : ℕ) (area : List ℕ) → n ≤ 122 → length (replied a n area) ≤ 1000
replied_fits a n area h = let s = replied_short a n area in omega (arith, s, h)

-- ---- a panel's record

value_fits : (k v : ℕ) → length (value_words k v) ≤ 7
unfolding value_words
value_fits k v = let n = numeral_short v in either (ltb k 3) (numeral v) (word_of k v) 7 (omega (arith, n)) (short_word_lem k v)

shift_fits : (z : ℤ) → length (shift_words z) ≤ 7
unfolding shift_words
shift_fits z = let n = numeral_short (size_of z) in either (eqb (size_of z) 0) (ascii "0") (sign_of z ∷ numeral (size_of z)) 7 (omega arith) (omega (arith, n))

-- the words that go back fit twenty bytes
pub words_fit_lem : (t : Says) → length (text_of t) ≤ 20
unfolding text_of set_words move_words
words_fit_lem Bare = omega arith
words_fit_lem (Value k v) = let a = short_lead_lem k in let b = value_fits k v in let l = length-append (lead_of k) (value_words k v) in omega (arith, a, b, l)
words_fit_lem (Offset k z) = let a = short_lead_lem k in let b = shift_fits z in let l = length-append (lead_of k) (shift_words z) in omega (arith, a, b, l)

settings_fit : (w : WRecord) (ks : List ℕ) → length (settings_text w ks) ≤ 21 * length ks
unfolding settings_text
settings_fit w [] = omega arith
settings_fit w (k ∷ ks) =
    let a = words_fit_lem (says_of (Get k) w) in
    let r = settings_fit w ks in
    let l = length-append (text_of (says_of (Get k) w)) (settings_text w ks) in
    omega (arith, a, r, l)

on_fits : (cs fs : List ℕ) → length (on_text cs fs) ≤ 11 * length cs
unfolding on_text
on_fits [] fs = omega arith
on_fits (c ∷ cs) [] = omega arith
on_fits (c ∷ cs) (f ∷ fs) =
    let a = either (eqb f 0) [] (number_text (ascii " ") c) 11 (omega arith) (said_fits (ascii " ") c) in
    let r = on_fits cs fs in
    let l = length-append (cond (eqb f 0) [] (number_text (ascii " ") c)) (on_text cs fs) in
    omega (arith, a, r, l)

inputs_fit : (i : Inputs) → length (inputs_text i) ≤ 200
unfolding inputs_text
inputs_fit i =
    let a = said_fits (ascii " INPUT ") i.used in
    let b = on_fits connectors i.on in
    let c = said_fits (ascii " PRESET ") i.preset in
    simp length-append (omega (arith, a, b, c))

gains_fit : (g : List ℕ) → length (gains_text g) ≤ 50
unfolding gains_text
gains_fit g =
    let a = said_fits (ascii " GAIN ") (get_or g 0 0) in
    let b = said_fits (ascii " ") (get_or g 1 0) in
    let c = said_fits (ascii " ") (get_or g 2 0) in
    simp length-append (omega (arith, a, b, c))

bias_fits : (word : List ℕ) (z : ℤ) → length (bias_text word z) ≤ length word + 11
unfolding bias_text
bias_fits word z = let s = signed_fits z in let l = length-append word (signed_text z) in omega (arith, l, s)

biases_fit : (z : List ℤ) → length (biases_text z) ≤ 50
unfolding biases_text
biases_fit z =
    let a = bias_fits (ascii " BIAS ") (get_or z 0 (pos 0)) in
    let b = bias_fits (ascii " ") (get_or z 1 (pos 0)) in
    let c = bias_fits (ascii " ") (get_or z 2 (pos 0)) in
    simp length-append (omega (arith, a, b, c))

balance_fits : (b : Balance) → length (balance_text b) ≤ 100
unfolding balance_text
balance_fits b =
    let g = gains_fit b.gains in
    let z = biases_fit b.biases in
    let l = length-append (gains_text b.gains) (biases_text b.biases) in
    omega (arith, g, z, l)

w_fits : (group unit : ℕ) (w : WRecord) → length (w_text group unit w) ≤ 1000
unfolding w_text
w_fits group unit w =
    let a = said_fits (ascii "W ") group in
    let b = said_fits (ascii " ") unit in
    let c = settings_fit w shown_names in
    let d = inputs_fit w.inputs in
    let e = balance_fits w.balance in
    simp length-append (omega (arith, a, b, c, d, e))

scene_fits : (v : ℕ) → length (scene_text v) ≤ 20
unfolding scene_text
scene_fits v =
    either (eqb v 0) (ascii " SCEN auto") (cond (eqb v 1) (ascii " SCEN auto24pSync") (ascii " SCEN general")) 20 (omega arith)
    (either (eqb v 1) (ascii " SCEN auto24pSync") (ascii " SCEN general") 20 (omega arith) (omega arith))

k_fits : (k : KRecord) → length (k_text k) ≤ 1000
unfolding k_text input_text mutes_text
k_fits k =
    let a = said_fits (ascii "K POWR ") k.power in
    let b = said_fits (ascii " INPT ") k.kind in
    let c = said_fits (ascii " ") k.port in
    let d = said_fits (ascii " VOLU ") k.volume in
    let e = said_fits (ascii " AMUT ") k.amut in
    let f = said_fits (ascii " PMUT ") k.pmut in
    let g = scene_fits k.scene in
    simp length-append (omega (arith, a, b, c, d, e, f, g))

panel_fits : (p : Panel) → length (panel_text p) ≤ 1000
unfolding panel_text
panel_fits p = either (eqb p.family family_w) (w_text p.group.0 p.unit.0 p.w) (k_text p.k) 1000 (w_fits p.group.0 p.unit.0 p.w) (k_fits p.k)

shown_fits : (b : DisplayBox) (link : ℕ) → length (shown_at b link) ≤ 1000
unfolding shown_at
shown_fits b link = either (is_there b.count link) (panel_text (panel_at (link - 1) b)) (ascii "none") 1000 (panel_fits (panel_at (link - 1) b)) (omega arith)

-- ---- an advert's fields

-- no text has more than 24 bytes
record Short (a : Fields) : Type 0 where
  product : length a.product ≤ 24
  location : length a.location ≤ 24
  region : length a.region ≤ 24
  name : length a.name ≤ 24

fields_short : (l : List ℕ) → Short (fields_of l)
unfolding fields_of
fields_short l =
    let p = taken_fits 12 (drop 8 l) in
    record { product = omega (arith, p); location = taken_fits 24 (drop 26 l); region = taken_fits 24 (drop 72 l); name = taken_fits 24 (drop 96 l) }

zeros_short : Short no_fields
unfolding no_fields
zeros_short = record { product = omega arith; location = omega arith; region = omega arith; name = omega arith }

read_short : (l : List ℕ) → Short (read_of l).fields
unfolding read_of
read_short l = choose Short (eqb (number_of (read_answer l)) 0) (fields_of l) no_fields (λ e. fields_short l) (λ e. zeros_short)

head_fits : (a : Fields) → Short a → length (head_text a) ≤ 500
unfolding head_text
head_fits a s =
    let c = said_fits (ascii "answer 0 category ") a.category in
    let p = told_fits (ascii " product ") a.product in
    let n = said_fits (ascii " serial ") a.serial in
    let w = said_fits (ascii " power ") a.power in
    let l = told_fits (ascii " location ") a.location in
    simp length-append (omega (arith, c, p, n, w, l, s.product, s.location))

addresses_fit : (a : Fields) → length (addresses_text a) ≤ 500
unfolding addresses_text
addresses_fit a =
    let c = said_fits (ascii " ip ") a.connected in
    let d = said_fits (ascii " accepted ") (get_or a.accepted 0 0) in
    let e = said_fits (ascii " ") (get_or a.accepted 1 0) in
    let f = said_fits (ascii " ") (get_or a.accepted 2 0) in
    let g = said_fits (ascii " ") (get_or a.accepted 3 0) in
    simp length-append (omega (arith, c, d, e, f, g))

tail_fits : (a : Fields) → Short a → length (tail_text a) ≤ 500
unfolding tail_text
tail_fits a s =
    let e = said_fits (ascii " error ") a.error in
    let r = told_fits (ascii " region ") a.region in
    let n = told_fits (ascii " name ") a.name in
    let g = said_fits (ascii " group ") a.group.0 in
    let u = said_fits (ascii " unit ") a.unit.0 in
    simp length-append (omega (arith, e, r, n, g, u, s.region, s.name))

advert_fits : (a : Fields) → Short a → length (advert_text a) ≤ 1500
unfolding advert_text
advert_fits a s =
    let h = head_fits a s in
    let m = addresses_fit a in
    let t = tail_fits a s in
    simp length-append (omega (arith, h, m, t))

read_fits : (r : Read) → Short r.fields → length (read_text r) ≤ 1500
unfolding read_text
read_fits r s =
    let a = placed_fits (number_of r.answer) (answer_place r.answer) in
    either (eqb (number_of r.answer) 0) (advert_text r.fields) (answer_text r.answer) 1500 (advert_fits r.fields s) (omega (arith, a))

wrote_fits : (a : Fields) (area : List ℕ) → length (wrote a area) ≤ 1000
unfolding wrote
wrote_fits a area =
    let w = write_answer (length area) a in
    replied_fits w (filled w) (area_after w a area) (choose (λ (n : ℕ). n ≤ 122) (eqb (number_of w) 0) 122 0 (λ e. omega arith) (λ e. omega arith))

-- ---- a list of the plain reader

entries_fit : (ss ls : List ℕ) → length (entries_text ss ls) ≤ 22 * length ss
unfolding entries_text entry_text
entries_fit [] ls = omega arith
entries_fit (s ∷ ss) [] = omega arith
entries_fit (s ∷ ss) (l ∷ ls) =
    let a = said_fits (ascii " ") s in
    let b = said_fits (ascii ":") l in
    let r = entries_fit ss ls in
    simp length-append (omega (arith, a, b, r))

end_fits : (l : Listing) → length (end_text l) ≤ 16
unfolding end_text
end_fits l =
    let a = said_fits (ascii " end ") l.end in
    let b = said_fits (ascii " stop ") l.end in
    either (eqb l.stopped 0) (number_text (ascii " end ") l.end) (number_text (ascii " stop ") l.end) 16 (omega (arith, a)) (omega (arith, b))

listed_fits : (bytes : List ℕ) → length (plain_text (listed bytes)) ≤ 1500
unfolding plain_text
listed_fits bytes =
    let l = listed bytes in
    let few = listed_few bytes in
    let a = entries_fit (take l.count l.starts) (take l.count l.lengths) in
    let t = taken_fits l.count l.starts in
    let e = end_fits l in
    simp length-append (omega (arith, few, a, t, e))

-- ---- a reply

serial_fits : (r : SerialReply) → length (serialTexts.bytes_of r) ≤ 48
unfolding serialTexts.bytes_of serialTexts.frame_of
serial_fits (Ack to) = omega arith
serial_fits (Nak to) = omega arith
serial_fits (State to remote) = omega arith
serial_fits (Balances to which v) = omega arith

serial_reply_fits : (s : ℕ) (o : Result SerialOrder Answer) (vs : List ℕ) (w : WRecord) → length (serial.replied s o vs w).reply ≤ 48
serial_reply_fits s (Done o) vs w = serial_fits (serialTexts.reply_to s o w)
serial_reply_fits s (Failed a) vs w = serial_fits (Nak s)

serial_turn_fits : (h : serialAsks.Heard) (vs : List ℕ) (w : WRecord) → length (serial.turned h vs w).reply ≤ 48
unfolding serial.turned
serial_turn_fits (Failed a) vs w = omega arith
serial_turn_fits (Done x) vs w = serial_reply_fits x.source x.order vs w

frame_fits : (m : List ℕ) (k : KRecord) → length (frames.turn_of m k).reply ≤ 48
frame_fits m k =
    let h = listed_every (λ (n : ℕ). leb n 48) (0 ∷ 24 ∷ 48 ∷ []) (length (frames.turn_of m k).reply) refl (reply_length m k) in
    leb-true (length (frames.turn_of m k).reply) 48 h

packed_fits : (m : List ℕ) (code : ℕ) (body : List ℕ) → length body ≤ 20 → length (packets.packet_of m code body) ≤ 48
unfolding packets.packet_of
packed_fits m code body h =
    let a = taken_fits 8 (drop 0 m) in
    let b = taken_fits 2 (drop 9 m) in
    let c = length_in_bytes 2 (length body) in
    simp length-append (omega (arith, a, b, c, h))

packet_fits : (m : List ℕ) (r : PacketReply) → length (packets.bytes_of m r) ≤ 48
unfolding packets.bytes_of
packet_fits m None = omega arith
packet_fits m Ng = packed_fits m 0x00 (0xf0 ∷ 0x50 ∷ []) (omega arith)
packet_fits m (Ok t) = packed_fits m 0x01 (text_of t) (words_fit_lem t)

packet_turn_fits : (m : List ℕ) (h : PacketHeard) (w : WRecord) → length (packets.turned m h w).reply ≤ 48
unfolding packets.turned
packet_turn_fits m (Failed (packetIs.Refused a)) w = omega arith
packet_turn_fits m (Failed (packetIs.Broken p)) w = packet_fits m Ng
packet_turn_fits m (Failed packetIs.NotUnderstood) w = packet_fits m (Ok Bare)
packet_turn_fits m (Done o) w = packet_fits m (Ok (says_of o w))

behind : {R : Type 0} (n : ℕ) (f : R → Turn R) (x : R) → length (f x).reply ≤ 48 → length (taken n f x).reply ≤ 48
behind {R} n f x = either-turn (λ (t : Turn R). length t.reply ≤ 48) n f x (omega arith)

turn_fits : (m : Message) (p : Panel) → length (turn m p).reply ≤ 48
unfolding turn
turn_fits (rs232c l m area) p = behind (length area) (serial.turn_of m) p.w (serial_turn_fits (serialAsks.heard_of m) (serialAsks.values_of m) p.w)
turn_fits (kjw l m area) p = behind (length area) (frames.turn_of m) p.k (frame_fits m p.k)
turn_fits (tcp l m area) p = behind (length area) (packets.turn_of m) p.w (packet_turn_fits m (heard_of m) p.w)
turn_fits (udp m) p = packet_turn_fits m (cast_of m) p.w

back_fits : (m : Message) (reply : List ℕ) → length reply ≤ 48 → (back m reply).len ≤ 48
back_fits (rs232c l m area) reply h = h
back_fits (kjw l m area) reply h = h
back_fits (tcp l m area) reply h = h
back_fits (udp m) reply h = omega arith

-- no message is replied to with more than 48 bytes
pub step_replies : (b : DisplayBox) (m : Message) → (step b m).back.len ≤ 48
unfolding step
step_replies b m =
    choose (λ (o : steps.Outcome). o.back.len ≤ 48)
    (eqb (number_of (door (names b) m)) 0) (passed (names b) b m) (refused b m (door (names b) m))
    (λ e. back_fits m _ (turn_fits m _)) (λ e. back_fits m [] (omega arith))

-- ---- a line

writes_fit : (b : DisplayBox) (text : List ℕ) → length text ≤ 1500 → length (writes b text).text ≤ room
unfolding writes
writes_fit b text h = let l = length-append text (0x0a ∷ []) in omega (arith, l, h)

message_fits : (by : Line) (b : DisplayBox) (line : List ℕ) → length (messaged by b line).text ≤ room
unfolding messaged stepped
message_fits by b line =
    let o = step b (message_of by (number_at most_n 1 line) (bytes_at 3 line) (filler (number_at most_area 2 line))) in
    let n = step_replies b (message_of by (number_at most_n 1 line) (bytes_at 3 line) (filler (number_at most_area 2 line))) in
    let r = replied_fits o.answer o.back.len o.back.area (omega (arith, n)) in
    writes_fit o.box (replied o.answer o.back.len o.back.area) (omega (arith, r))

-- of the orders on the box alone
pub order_fits : (o : BoxOrder) (b : DisplayBox) (line : List ℕ) → length (ordered o b line).text ≤ room
unfolding ordered boxed spread summed
order_fits Passed b line = omega arith
order_fits Unread b line = writes_fit b (ascii "unread") (omega arith)
order_fits Box b line =
    let c = configured (configuration_of line) in
    let s = said_fits (ascii "box ") (number_of c.answer) in
    writes_fit c.made (number_text (ascii "box ") (number_of c.answer)) (omega (arith, s))
order_fits Rs232 b line = message_fits lines.Rs232c b line
order_fits Kjw b line = message_fits lines.Kjw b line
order_fits Tcp b line = message_fits lines.Tcp b line
order_fits Udp b line =
    let o = step b (udp (bytes_at 1 line)) in
    let s = placed_fits (number_of o.answer) (answer_place o.answer) in
    writes_fit o.box (answer_text o.answer) (omega (arith, s))
order_fits Show b line = let s = shown_fits b (number_at most_n 1 line) in writes_fit b (shown_at b (number_at most_n 1 line)) (omega (arith, s))
order_fits Advert b line = writes_fit b (read_text (read_of (bytes_at 1 line))) (read_fits (read_of (bytes_at 1 line)) (read_short (bytes_at 1 line)))
order_fits Write b line =
    let w = wrote_fits (wanted line) (filler (number_at most_area 1 line)) in
    writes_fit b (wrote (wanted line) (filler (number_at most_area 1 line))) (omega (arith, w))
order_fits Sum b line =
    let s = either (sums_to_zero (bytes_at 1 line)) (ascii "yes") (ascii "no") 1500 (omega arith) (omega arith) in
    writes_fit b (summed (bytes_at 1 line)) s
order_fits Plain b line = writes_fit b (plain_text (listed (bytes_at 1 line))) (listed_fits (bytes_at 1 line))
