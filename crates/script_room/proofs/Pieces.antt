-- No line writes more than there is room for. A piece: every packet has thirteen bytes at least, and its text fourteen at most for each of
-- them; and no packet has a byte that was neither held nor in the piece.
use Prim.Native.Nat.{ℕ, ◌*◌, ◌≤◌}
use mathlib.Core.List.{List, [], ◌∷◌, ◌++◌}
use native.Mathlib.Omega.{arith}
use lib.Dec.{leb}
use lib.ListN.{length, take, length-append}
use borrow.Author.Tests.{leb-true}
use Rattle.laws.specs.Bytes.{ascii}
use Rattle.laws.proofs.Conditions.{choose}
use Rattle.panels.specs.declared.DisplayBox.{DisplayBox}
use Rattle.receiver.specs.declared.Receiver.{Receiver}
use Rattle.receiver.specs.Calls.{held_in, given}
use Rattle.receiver.specs.Pieces.{Feeds, fed}
use Rattle.receiver.specs.Pieces.Feeds.{last, more}
use Rattle.receiver.proofs.Calls.{front_le, packet_le, whole_packet}
use Rattle.receiver.proofs.Pieces.{leaves, fed_feeds}
use Rattle.steps.specs.Step.{step}
use Rattle.script_words.specs.Words.{number_at, bytes_at}
use Rattle.script_words.specs.Kinds.{most_link, most_area}
use Rattle.script_words.proofs.Hex.{bytes_most}
use Rattle.script_lines.specs.Orders.{order_of}
use Rattle.script_lines.specs.declared.Order.{Order}
use Rattle.script_lines.specs.declared.Order.TheVariants.{OnBox, Piece}
use Rattle.script_text.specs.Texts.{number_text}
use Rattle.script_answers.specs.Answers.{writes, filler}
use Rattle.script_messages.specs.Messages.{stepped}
use Rattle.script_receivers.specs.Receivers.{packet_message, packeted, packets_text, pieced, pieced_by}
use Rattle.script.specs.Answers.{on_box, on_link, carried_out, answered}
use Rattle.script.specs.declared.Held.{Held}
use Rattle.script_room.specs.Room.{room}
use Rattle.script_room.proofs.Fits.{said_fits, told_fits, replied_short, step_replies, order_fits}

-- ---- what comes in

-- "It holds at most 512 bytes"
held_short : (r : Receiver) → length (held_in r) ≤ 512
unfolding held_in
held_short r = choose (λ (l : List ℕ). length l ≤ 512) (leb r.held 512) (take r.held r.store) [] (λ e. front_le r.held r.store (leb-true r.held 512 e)) (λ e. omega arith)

-- ---- what is written

module _ (link : ℕ) (area : List ℕ) where
  packet_fits : (b : DisplayBox) (packet : List ℕ) → 13 ≤ length packet → length (packeted link area b packet).text ≤ 14 * length packet
  unfolding packeted stepped writes
  packet_fits b packet h =
      let o = step b (packet_message link area packet) in
      let n = step_replies b (packet_message link area packet) in
      let s = replied_short o.answer o.back.len o.back.area in
      let t = told_fits (ascii "packet ") packet in
      simp length-append (omega (arith, h, n, s, t))

  packets_fit : {r s : Receiver} {p : List ℕ} {os : List (List ℕ)} (b : DisplayBox) → Feeds r p os s → length (packets_text link area b os) ≤ 14 * length (held_in r ++ p)
  unfolding packets_text
  packets_fit b (last e) = omega arith
  packets_fit b (more {r = r} {p = p} {os = os} n f) =
      let t = packet_fits b (given r p).packet (whole_packet r p n).1 in
      let rest = packets_fit (packeted link area b (given r p).packet).box f in
      let l = leaves r p in
      let m = packet_le r p in
      let a = length-append (packeted link area b (given r p).packet).text (packets_text link area (packeted link area b (given r p).packet).box os) in
      omega (arith, t, rest, l, m, a)

piece_fits : (b : DisplayBox) (r : Receiver) (line : List ℕ) → length (pieced_by b r line).text ≤ room
unfolding pieced_by pieced
piece_fits b r line =
    let p = bytes_at 3 line in
    let link = number_at most_link 1 line in
    let area = filler (number_at most_area 2 line) in
    let t = packets_fit link area b (fed_feeds r p) in
    let l = length-append (held_in r) p in
    let h = held_short r in
    let m = bytes_most 3 line in
    let word = number_text (ascii "held ") (fed r p).after.held in
    let s = said_fits (ascii "held ") (fed r p).after.held in
    let x = length-append word (0x0a ∷ []) in
    let y = length-append (packets_text link area b (fed r p).packets) (word ++ (0x0a ∷ [])) in
    omega (arith, t, l, h, m, s, x, y)

-- so the area of the program cuts nothing off
pub text_fits : (s : Held) (line : List ℕ) → length (answered s line).text ≤ room
unfolding answered carried_out on_box on_link
text_fits s line = go (order_of line)
  where
    go : (o : Order) → length (carried_out o s line).text ≤ room
    go (OnBox o) = order_fits o s.made line
    go Piece = piece_fits s.made _ line
