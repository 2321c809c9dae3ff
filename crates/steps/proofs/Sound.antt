-- One panel's turn touches one family's record alone, and that one as its protocol's theorems say: by the four ways in.
use mathlib.Core.Path.{◌≡◌, refl, ap}
use mathlib.Core.Bool.{Bool, true, false, cond, ◌&&◌}
use mathlib.Core.List.{List, []}
use Prim.Native.Nat.{ℕ, ◌<◌}
use native.Mathlib.Omega.{arith}
use lib.Dec.{eqb}
use lib.ListN.{length}
use Rattle.std.specs.Prelude.{Result, Ok, Err}
use Rattle.laws.proofs.Conditions.{and_first, and_second, and_both}
use Rattle.terms.specs.Answers.{number_of}
use Rattle.terms.proofs.Answers.{part_late}
use Rattle.turns.specs.Turns.{Turn, taken, turn_with}
use Rattle.turns.proofs.Turns.{either}
use Rattle.panels.specs.Records.{family_w, family_k}
use Rattle.panels.specs.Valid.{ok_w, ok_k, ok_ids, zero_ids, ok_family, ok_panel}
use Rattle.panels.specs.declared.Panel.{Panel}
use Rattle.panels.specs.declared.WRecord.{WRecord}
use Rattle.panels.specs.declared.KRecord.{KRecord}
use Rattle.rs232c_asks.specs.Asks as serialAsks
use Rattle.rs232c.specs.Replies as serial
use Rattle.rs232c_asks.proofs.Envelopes as serialEnvelopes
use Rattle.rs232c.proofs.Refusals as serialRefusals
use Rattle.rs232c.proofs.Validity as serialValidity
use Rattle.kjw.specs.Replies as frames
use Rattle.kjw_tells.specs.Texts as frameTexts
use Rattle.kjw_asks.specs.Asks as frameAsks
use Rattle.kjw_sets.specs.declared.Order as frameOrder
use Rattle.kjw_asks.specs.declared.Fault as frameFault
use Rattle.kjw_asks.specs.declared.Fault.TheVariants as frameIs
use Rattle.kjw.proofs.Validity as frameValidity
use Rattle.kjw.proofs.Refusals as frameRefusals
use Rattle.sdcp_asks.specs.Asks as packetAsks
use Rattle.sdcp.specs.Replies as packets
use Rattle.sdcp_asks.specs.declared.Fault.TheVariants as packetIs
use Rattle.sdcp.proofs.Refusals as packetRefusals
use Rattle.sdcp.proofs.Cast as packetCast
use Rattle.sdcp.proofs.Validity as packetValidity
use Rattle.steps.specs.Messages.{Message, rs232c, kjw, tcp, udp, name_of}
use Rattle.steps.specs.Step.{with_w, with_k, turn}

-- ---- answers 1 to 4 send nothing

abbrev pub Quiet : ℕ → List ℕ → Type 0
Quiet n reply = (n ≡ 0 → ⊥) → n < 5 → reply ≡ []

-- behind check 1 as well: that refusal sends nothing
quiet : {R : Type 0} (room : ℕ) (f : R → Turn R) (x : R) → Quiet (number_of (f x).answer) (f x).reply → Quiet (number_of (taken room f x).answer) (taken room f x).reply
quiet {R} room f x = either (λ (t : Turn R). Quiet (number_of t.answer) t.reply) room f x (λ z l. refl)

serial_heard : (m vs : List ℕ) (w : WRecord) → Quiet (number_of (serial.turned (serialAsks.heard_of m) vs w).answer) (serial.turned (serialAsks.heard_of m) vs w).reply
unfolding serial.turned
serial_heard m vs w =
    serialEnvelopes.by_rungs (λ (h : serialAsks.Heard). Quiet (number_of (serial.turned h vs w).answer) (serial.turned h vs w).reply) m (λ z l. refl) (λ z l. refl)
    (λ p e z l. let n = part_late p in absurd (omega (arith, n, l))) (λ n z l. absurd (omega arith)) (λ o n z l. absurd (z refl))

frame_heard : (h : Result frameOrder.Order frameFault.Fault) (s : List ℕ) (k : KRecord) → Quiet (number_of (frames.decided k h).answer) (frames.turned s (frames.decided k h)).reply
unfolding frames.decided frameTexts.bytes_of
frame_heard (Err (frameIs.Refused a)) s k z l = refl
frame_heard (Err frameIs.NotUnderstood) s k z l = absurd (omega arith)
frame_heard (Ok o) s k z l = absurd (z refl)

frame_quiet : (m : List ℕ) (k : KRecord) → Quiet (number_of (frames.turn_of m k).answer) (frames.turn_of m k).reply
unfolding frames.turn_of
frame_quiet m k = frame_heard (frameAsks.heard_of m) _ k

packet_heard : (m : List ℕ) (h : packetAsks.Heard) (w : WRecord) → Quiet (number_of (packets.turned m h w).answer) (packets.turned m h w).reply
unfolding packets.turned
packet_heard m (Err (packetIs.Refused a)) w z l = refl
packet_heard m (Err (packetIs.Broken p)) w z l = let n = part_late p in absurd (omega (arith, n, l))
packet_heard m (Err packetIs.NotUnderstood) w z l = absurd (omega arith)
packet_heard m (Ok o) w z l = absurd (z refl)

-- ---- a panel whose W record, or K record, is another: valid where that record is, or is not judged

with_w_lem : (p : Panel) (w : WRecord) → (ok_w p.w ≡ true → ok_w w ≡ true) → ok_family p ≡ true → ok_family (with_w p w) ≡ true
unfolding ok_family
with_w_lem p w f = go (eqb p.family family_w)
  where
    others : Bool
    others = eqb p.family family_k && zero_ids p.group p.unit && ok_k p.k

    go : (b : Bool) → cond b (ok_ids p.group p.unit && ok_w p.w) others ≡ true → cond b (ok_ids p.group p.unit && ok_w w) others ≡ true
    go true e = and_both (ok_ids p.group p.unit) (ok_w w) (and_first (ok_ids p.group p.unit) (ok_w p.w) e) (f (and_second (ok_ids p.group p.unit) (ok_w p.w) e))
    go false e = e

with_k_lem : (p : Panel) (k : KRecord) → (ok_k p.k ≡ true → ok_k k ≡ true) → ok_family p ≡ true → ok_family (with_k p k) ≡ true
unfolding ok_family
with_k_lem p k f = go (eqb p.family family_w)
  where
    w_ok : Bool
    w_ok = ok_ids p.group p.unit && ok_w p.w

    k_family : Bool
    k_family = eqb p.family family_k && zero_ids p.group p.unit

    go : (b : Bool) → cond b w_ok (k_family && ok_k p.k) ≡ true → cond b w_ok (k_family && ok_k k) ≡ true
    go true e = e
    go false e = and_both k_family (ok_k k) (and_first k_family (ok_k p.k) e) (f (and_second k_family (ok_k p.k) e))

-- ---- the turn

-- a panel that is called and numbered as it was: its family, its IDs and its spare bytes
pub record Known (p q : Panel) : Type 0 where
  pub family_kept : q.family ≡ p.family
  pub group_kept : q.group ≡ p.group
  pub unit_kept : q.unit ≡ p.unit
  pub spare_kept : q.spare ≡ p.spare
  pub name_kept : name_of q ≡ name_of p

-- whatever its two records are
known : (p : Panel) (w : WRecord) (k : KRecord) → Known p (with_k (with_w p w) k)
unfolding name_of
known p w k = record { family_kept = refl; group_kept = refl; unit_kept = refl; spare_kept = refl; name_kept = refl }

-- what a turn keeps of its panel: "unchanged" stands beside every answer but 0
pub record Sound (p : Panel) (t : Turn Panel) : Type 0 where
  pub known : Known p t.after
  pub ok_kept : ok_panel p ≡ true → ok_panel t.after ≡ true
  pub unmoved : (number_of t.answer ≡ 0 → ⊥) → t.after ≡ p
  pub quiet : Quiet (number_of t.answer) t.reply

turn_with_w : (p : Panel) (t : Turn WRecord) → (ok_w p.w ≡ true → ok_w t.after ≡ true) → ((number_of t.answer ≡ 0 → ⊥) → t.after ≡ p.w) → Quiet (number_of t.answer) t.reply → Sound p (turn_with (with_w p) t)
unfolding ok_panel
turn_with_w p t v u q = record { known = known p t.after p.k; ok_kept = with_w_lem p t.after v; unmoved = λ z. ap (with_w p) (u z); quiet = q }

turn_with_k : (p : Panel) (t : Turn KRecord) → (ok_k p.k ≡ true → ok_k t.after ≡ true) → ((number_of t.answer ≡ 0 → ⊥) → t.after ≡ p.k) → Quiet (number_of t.answer) t.reply → Sound p (turn_with (with_k p) t)
unfolding ok_panel
turn_with_k p t v u q = record { known = known p p.w t.after; ok_kept = with_k_lem p t.after v; unmoved = λ z. ap (with_k p) (u z); quiet = q }

-- whatever the message and the panel: for a panel of the other family too, whose own record the turn does not touch
pub sound : (m : Message) (p : Panel) → Sound p (turn m p)
unfolding turn
sound (rs232c l m area) p =
    turn_with_w p _ (serialValidity.stays_valid (length area) m p.w) (serialRefusals.refusal_leaves (length area) m p.w)
    (quiet (length area) (serial.turn_of m) p.w (serial_heard m (serialAsks.values_of m) p.w))
sound (kjw l m area) p =
    turn_with_k p _ (frameValidity.taken_valid (length area) m p.k)
    (λ z. frameRefusals.taken_unchanged (length area) m p.k (λ e. z (ap number_of e)))
    (quiet (length area) (frames.turn_of m) p.k (frame_quiet m p.k))
sound (tcp l m area) p =
    turn_with_w p _ (packetValidity.stays_valid (length area) m p.w) (packetRefusals.refusal_leaves (length area) m p.w)
    (quiet (length area) (packets.turn_of m) p.w (packet_heard m (packetAsks.heard_of m) p.w))
sound (udp m) p =
    turn_with_w p _ (packetCast.cast_valid m p.w) (packetRefusals.turn_leaves m (packetAsks.cast_of m) p.w)
    (packet_heard m (packetAsks.cast_of m) p.w)
