-- What is understood is carried out on the record, by each protocol: the panel that takes its turn carries it out, and of a panel a turn
-- touches one record alone.
use Prim.Native.Nat.{ℕ, ◌<◌, ◌≤◌}
use mathlib.Core.Path.{◌≡◌, ap, ◌∙◌}
use mathlib.Core.Bool.{true}
use mathlib.Core.List.{List}
use lib.ListN.{length}
use borrow.Author.Tests.{le-ltb}
use Rattle.std.specs.Prelude.{Result, Ok}
use Rattle.terms.specs.Answers.{number_of}
use Rattle.terms.specs.declared.Answer.TheVariants.{Done}
use Rattle.turns.specs.Turns.{Turn, taken}
use Rattle.turns.proofs.Turns.{roomy}
use Rattle.panels.specs.declared.Panel.{Panel}
use Rattle.panels.specs.declared.KRecord.{KRecord}
use Rattle.panels.specs.declared.WRecord.{WRecord}
use Rattle.panels.specs.declared.DisplayBox.{DisplayBox}
use Rattle.vmc.specs.Orders as words
use Rattle.vmc_asks.specs.declared.Order as wordOrder
use Rattle.sdcp_asks.specs.Asks as packetAsks
use Rattle.sdcp.specs.Replies as packets
use Rattle.sdcp_asks.proofs.Cast.{cast_heard}
use Rattle.sdcp.proofs.Cast.{cast_carries}
use Rattle.sdcp.specs.declared.Reply.TheVariants.{Ok as OkWith}
use Rattle.kjw.specs.Replies as frames
use Rattle.kjw.specs.Orders as frameOrders
use Rattle.kjw_asks.specs.Asks as frameAsks
use Rattle.kjw_sets.specs.declared.Order as frameOrder
use Rattle.kjw_asks.specs.declared.Fault as frameFault
use Rattle.rs232c_asks.specs.Asks as serialAsks
use Rattle.rs232c.specs.Orders as serialOrders
use Rattle.rs232c_asks.specs.declared.Order as serialOrder
use Rattle.rs232c.proofs.AskedBack as serialBack
use Rattle.steps.specs.Messages.{Message, rs232c, kjw, tcp, udp, names}
use Rattle.steps.specs.Addressing.{addressed}
use Rattle.steps.specs.Step.{with_w, with_k, turn, panel_at, step}
use Rattle.steps.proofs.Door.{by_rs232c, by_kjw, by_tcp_lem as on_link, meets}
use Rattle.steps.proofs.Turns.{Reaches, has_room, done_passes, done_reaches, takes}
use Rattle.steps.proofs.Validity.{its_own}
use Rattle.steps.proofs.Only.{only_0}

-- ---- KJW

turn_obeys : (h : Result frameOrder.Order frameFault.Fault) (o : frameOrder.Order) (k : KRecord) → h ≡ Ok o → (frames.decided k h).k ≡ frameOrders.carried o k
unfolding frames.decided
turn_obeys h o k e = rw e

pub frame_obeyed : (b : DisplayBox) (i l : ℕ) (m area : List ℕ) (o : frameOrder.Order) → frameAsks.heard_of m ≡ Ok o → Reaches b (kjw l m area) i → panel_at i (step b (kjw l m area)).box ≡ with_k (panel_at i b) (frameOrders.carried o (panel_at i b).k)
unfolding turn frames.turn_of
frame_obeyed b i l m area o e r =
    takes r
    ∙ ap (λ (t : Turn KRecord). with_k (panel_at i b) t.after) (roomy (length area) (frames.turn_of m) (panel_at i b).k (has_room (by_kjw m) r))
    ∙ ap (with_k (panel_at i b)) (turn_obeys (frameAsks.heard_of m) o (panel_at i b).k e)

-- ---- RS-232C

pub serial_obeyed : (b : DisplayBox) (i l s : ℕ) (m area : List ℕ) (o : serialOrder.Order) → serialAsks.heard_of m ≡ serialAsks.understood s o → Reaches b (rs232c l m area) i → panel_at i (step b (rs232c l m area)).box ≡ with_w (panel_at i b) (serialOrders.carried o (serialAsks.values_of m) (panel_at i b).w)
unfolding turn
serial_obeyed b i l s m area o e r =
    takes r
    ∙ ap (λ (t : Turn WRecord). with_w (panel_at i b) t.after) (serialBack.with_room (length area) s o m (panel_at i b).w (has_room (by_rs232c m) r) e)

-- ---- SDCP

-- a message that brings a packet: by TCP or by UDP
pub data Brings (p : List ℕ) : Message → Type 0 where
  by_tcp_lem : (l : ℕ) (area : List ℕ) → Brings p (tcp l p area)
  by_udp : Brings p (udp p)

-- what a panel does with an order that it understood, where there is room for the reply
pub told_order : (room : ℕ) (p : List ℕ) (o : wordOrder.Order) (w : WRecord) → 512 ≤ room → packetAsks.heard_of p ≡ Ok o → taken room (packets.turn_of p) w ≡ record { after = words.carried o w; answer = Done; reply = packets.bytes_of p (OkWith (words.says_of o w)) }
unfolding taken packets.turned
told_order room p o w h e = rw (le-ltb room 512 h, e)

pub obeyed : {b : DisplayBox} {m : Message} {i : ℕ} (p : List ℕ) (o : wordOrder.Order) → Brings p m → packetAsks.heard_of p ≡ Ok o → Reaches b m i → panel_at i (step b m).box ≡ with_w (panel_at i b) (words.carried o (panel_at i b).w)
unfolding turn packets.turned
obeyed {b} {m} {i} p o (by_tcp_lem l area) e r =
    takes r
    ∙ ap (λ (t : Turn WRecord). with_w (panel_at i b) t.after) (told_order (length area) p o (panel_at i b).w (has_room (on_link p) r) e)
obeyed {b} {m} {i} p o by_udp e r =
    takes r
    ∙ ap (with_w (panel_at i b)) (cast_carries p o (panel_at i b).w e)

-- ---- any way in

-- an order was understood, and the panel is as it was but for the record of its family, on which that order was carried out
abbrev pub Carried : Message → Panel → Panel → Type 0
Carried (rs232c l m area) p p' = (s : ℕ) × (o : serialOrder.Order) × (serialAsks.heard_of m ≡ serialAsks.understood s o) × (p' ≡ with_w p (serialOrders.carried o (serialAsks.values_of m) p.w))
Carried (kjw l m area) p p' = (o : frameOrder.Order) × (frameAsks.heard_of m ≡ Ok o) × (p' ≡ with_k p (frameOrders.carried o p.k))
Carried (tcp l m area) p p' = (o : wordOrder.Order) × (packetAsks.heard_of m ≡ Ok o) × (p' ≡ with_w p (words.carried o p.w))
Carried (udp m) p p' = (o : wordOrder.Order) × (packetAsks.heard_of m ≡ Ok o) × (p' ≡ with_w p (words.carried o p.w))

-- "A set that was accepted stands in the record when its reply is handed out": whatever the box, so in each that a configuration and messages lead
-- to, a message that is answered 0 leaves the order that was understood carried out at every panel that it is addressed to
pub accepted_stands : (b : DisplayBox) (m : Message) (i : ℕ) → (step b m).answer ≡ Done → addressed (names b) m i ≡ true → Carried m (panel_at i b) (panel_at i (step b m).box)
accepted_stands b (rs232c l m area) i d a =
    let t = (only_0 b (rs232c l m area) (ap number_of d)).5 in
    (t.0, t.1, t.2, serial_obeyed b i l t.0 m area t.1 t.2 (done_reaches b (rs232c l m area) i d a))
accepted_stands b (kjw l m area) i d a =
    let t = (only_0 b (kjw l m area) (ap number_of d)).5 in
    (t.0, t.1, frame_obeyed b i l m area t.0 t.1 (done_reaches b (kjw l m area) i d a))
accepted_stands b (tcp l m area) i d a =
    let t = (only_0 b (tcp l m area) (ap number_of d)).5 in
    (t.0, t.1, obeyed m t.0 (by_tcp_lem l area) t.1 (done_reaches b (tcp l m area) i d a))
accepted_stands b (udp m) i d a =
    let t = (only_0 b (udp m) (ap number_of d)).5 in
    let h = cast_heard m t.0 t.1 in
    (t.0, h, obeyed m t.0 by_udp h (done_reaches b (udp m) i d a))

-- and there is such a panel: 0 is never said where nobody carried the order out
pub accepted_somewhere : (b : DisplayBox) (m : Message)
    → (step b m).answer ≡ Done
    → (i : ℕ) × (i < b.count) × (addressed (names b) m i ≡ true) × Carried m (panel_at i b) (panel_at i (step b m).box)
accepted_somewhere b m d =
    let t = meets (names b) m (done_passes b m d) in
    (t.0, (its_own (done_reaches b m t.0 d t.1)).0, t.1, accepted_stands b m t.0 d t.1)
