-- Document 02, §8: a wrong part that is told is the first that is wrong in the message's envelope, whatever the box, for the door tells none and
-- each protocol tells the first.
use Prim.Native.Nat.{ℕ, ◌<◌}
use mathlib.Core.Path.{◌≡◌, sym, ap, subst, ◌∙◌}
use mathlib.Core.Bool.{Bool, true, false, not, cond}
use mathlib.Core.List.{List, [], ◌∷◌}
use native.Mathlib.Omega.{arith}
use lib.Dec.{eqb, ltb}
use lib.ListN.{length}
use Rattle.laws.proofs.Conditions.{choose}
use Rattle.terms.specs.Answers.{number_of}
use Rattle.terms.specs.declared.Part.{Part}
use Rattle.terms.specs.declared.Answer.{Answer}
use Rattle.terms.specs.declared.Answer.TheVariants.{Done, AreaTooSmall, NoSuchPanel, WrongLength, NotForUs, EnvelopeWrong, NotUnderstood, BadConfiguration, StatusByBroadcast, PartWrong}
use Rattle.std.specs.Prelude.{Err, Option, Some, None}
use Rattle.terms.proofs.Answers.{part_late}
use Rattle.turns.specs.Turns.{Turn}
use Rattle.turns.proofs.Turns.{either}
use Rattle.panels.specs.declared.WRecord.{WRecord}
use Rattle.panels.specs.declared.KRecord.{KRecord}
use Rattle.panels.specs.declared.DisplayBox.{DisplayBox}
use Rattle.rs232c_asks.specs.Asks as serialAsks
use Rattle.rs232c_asks.proofs.Envelopes as serialEnvelopes
use Rattle.rs232c.specs.Replies as serial
use Rattle.kjw_asks.specs.Asks as frameAsks
use Rattle.kjw.specs.Replies as frames
use Rattle.vmc_asks.specs.declared.Order.{Order}
use Rattle.vmc_asks.specs.Asks.{read_data, asks_status}
use Rattle.sdcp_asks.specs.Asks as packetAsks
use Rattle.sdcp_asks.proofs.Cast.{unless_not}
use Rattle.sdcp_asks.proofs.Envelopes as packetEnvelopes
use Rattle.sdcp.specs.Replies as packets
use Rattle.sdcp.proofs.Refusals.{turned_answer}
use Rattle.steps.specs.Messages.{Message, rs232c, kjw, tcp, udp, Name, names, on_link, is_w, is_k}
use Rattle.steps.specs.Addressing.{target, any_called}
use Rattle.steps.specs.Step.{if_open, to_nobody, door, turn, answer_to, Outcome, step}
use Rattle.steps.proofs.Judged.{first_of, own_checks, frame_unclear, frame_answered}

-- 9 to 14: a part of the envelope that is wrong, and none before it; KJW has none
abbrev pub Broken : Message → Part → Type 0
Broken (rs232c l m area) p = serialEnvelopes.FirstWrong m p
Broken (kjw l m area) p = ⊥
Broken (tcp l m area) p = packetEnvelopes.FirstWrong m p
Broken (udp m) p = packetEnvelopes.FirstWrong m p

-- what an answer says of a message's envelope
abbrev pub Told : Message → Answer → Type 0
Told m Done = Unit {0}
Told m AreaTooSmall = Unit {0}
Told m NoSuchPanel = Unit {0}
Told m WrongLength = Unit {0}
Told m NotForUs = Unit {0}
Told m EnvelopeWrong = Unit {0}
Told m NotUnderstood = Unit {0}
Told m BadConfiguration = Unit {0}
Told m StatusByBroadcast = Unit {0}
Told m (PartWrong p) = Broken m p

-- ---- the door tells no part

nobody_told : (x : Message) (m : List ℕ) → Told x (to_nobody m)
unfolding to_nobody
nobody_told x m = choose (Told x) (ltb (length m) 13) _ _ (λ e. tt) (λ e. tt)

open_told : (x : Message) (area : List ℕ) (fits : Bool) (rest : Answer) → Told x rest → Told x (if_open area fits rest)
open_told x area fits rest t = choose (Told x) (ltb (length area) 512) _ _ (λ e. tt) (λ e. choose (Told x) fits _ _ (λ f. t) (λ f. tt))

door_told : (ns : List Name) (x : Message) → Told x (door ns x)
unfolding door
door_told ns (rs232c l m area) = open_told (rs232c l m area) area (is_w (on_link ns l)) Done tt
door_told ns (kjw l m area) = open_told (kjw l m area) area (is_k (on_link ns l)) Done tt
door_told ns (tcp l m area) =
    open_told (tcp l m area) area (is_w (on_link ns l)) (cond (eqb (target ns (tcp l m area)) 0) (to_nobody m) Done)
    (choose (Told (tcp l m area)) (eqb (target ns (tcp l m area)) 0) (to_nobody m) Done (λ e. nobody_told (tcp l m area) m) (λ e. tt))
door_told ns (udp m) = choose (Told (udp m)) (any_called m ns) Done (to_nobody m) (λ e. tt) (λ e. nobody_told (udp m) m)

-- ---- each protocol tells the first

serial_told : (x : Message) (m vs : List ℕ) (w : WRecord) → ((p : Part) → serialAsks.envelope_of m ≡ Err p → Broken x p) → Told x (serial.turned (serialAsks.heard_of m) vs w).answer
unfolding serial.turned
serial_told x m vs w f = serialEnvelopes.by_rungs (λ (h : serialAsks.Heard). Told x (serial.turned h vs w).answer) m tt tt f (λ n. tt) (λ o n. tt)

words_told : (x : Message) (asked : Bool) (y : Option Order) → Told x (packets.answer_of (packetAsks.unless_status asked (packetAsks.in_words y)))
words_told x true (Some o) = tt
words_told x false (Some o) = tt
words_told x true None = tt
words_told x false None = tt

packet_told : (x : Message) (m : List ℕ) (asked : Bool) → ((p : Part) → packetAsks.envelope_of m ≡ Err p → Broken x p) → Told x (packets.answer_of (packetAsks.unless_status asked (packetAsks.heard_of m)))
packet_told x m asked f =
    packetEnvelopes.by_rungs (λ (h : packetAsks.Heard). Told x (packets.answer_of (packetAsks.unless_status asked h))) m tt tt (λ h. f)
    (λ h. words_told x asked (read_data (packetAsks.data_of m)))

-- an answer under 9 tells no part
low_told : (x : Message) (a : Answer) → number_of a < 9 → Told x a
low_told x Done l = tt
low_told x AreaTooSmall l = tt
low_told x NoSuchPanel l = tt
low_told x WrongLength l = tt
low_told x NotForUs l = tt
low_told x EnvelopeWrong l = tt
low_told x NotUnderstood l = tt
low_told x BadConfiguration l = tt
low_told x StatusByBroadcast l = tt
low_told x (PartWrong p) l = let n = part_late p in absurd (omega (arith, n, l))

frame_told : (x : Message) (m : List ℕ) (k : KRecord) → Told x (frames.turn_of m k).answer
frame_told x m k = low_told x (frames.turn_of m k).answer (subst (λ (n : ℕ). n < 9) (sym (frame_answered m k)) (go (not (eqb (length m) 24)) (not (frameAsks.is_ours m)) (frame_unclear (frameAsks.heard_of m))))
  where
    go : (a b c : Bool) → first_of own_checks (a ∷ b ∷ false ∷ false ∷ false ∷ false ∷ false ∷ false ∷ false ∷ c ∷ []) < 9
    go true b c = omega arith
    go false true c = omega arith
    go false false true = omega arith
    go false false false = omega arith

-- ---- the box

answer_told : (b : DisplayBox) (x : Message) → Told x (answer_to (names b) b x)
unfolding turn packetAsks.cast_of
answer_told b (rs232c l m area) =
    either (λ (t : Turn WRecord). Told (rs232c l m area) t.answer) (length area) (serial.turn_of m) _ tt
    (serial_told (rs232c l m area) m (serialAsks.values_of m) _ (serialEnvelopes.first_wrong m))
answer_told b (kjw l m area) = either (λ (t : Turn KRecord). Told (kjw l m area) t.answer) (length area) (frames.turn_of m) _ tt (frame_told (kjw l m area) m _)
answer_told b (tcp l m area) =
    either (λ (t : Turn WRecord). Told (tcp l m area) t.answer) (length area) (packets.turn_of m) _ tt
    (subst (Told (tcp l m area)) (sym (turned_answer m (packetAsks.heard_of m) _ ∙ ap packets.answer_of (sym (unless_not (packetAsks.heard_of m))))) (packet_told (tcp l m area) m false (packetEnvelopes.first_wrong m)))
answer_told b (udp m) = packet_told (udp m) m (asks_status (packetAsks.data_of m)) (packetEnvelopes.first_wrong m)

-- whatever the box and the message
pub told : (b : DisplayBox) (x : Message) → Told x (step b x).answer
unfolding step
told b x =
    choose (λ (o : Outcome). Told x o.answer) (eqb (number_of (door (names b) x)) 0) _ _
    (λ e. answer_told b x)
    (λ e. door_told (names b) x)
