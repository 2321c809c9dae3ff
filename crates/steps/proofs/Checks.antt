-- "Checks run in the order of the numbers, and the first that applies is given": the door's checks and what was heard are one list of
-- conditions, and the answer is the number of the first that holds.
use Prim.Native.Nat.{ℕ, zero, suc, ◌≤◌}
use mathlib.Core.Path.{◌≡◌, refl, sym, ap, ◌∙◌}
use mathlib.Core.Bool.{Bool, true, false, not, cond, ◌&&◌, or-true}
use mathlib.Core.List.{List, [], ◌∷◌}
use lib.Dec.{eqb, ltb}
use lib.ListN.{length, get_or, drop}
use borrow.Author.Tests.{eqb-true, ltb-true, ltb-false, le-ltb}
use Rattle.terms.specs.Answers.{number_of}
use Rattle.terms.specs.declared.Answer.TheVariants.{Done, WrongLength, NotForUs}
use Rattle.turns.specs.Turns.{Turn}
use Rattle.turns.proofs.Turns.{roomy}
use Rattle.panels.specs.Records.{family_w, family_k}
use Rattle.panels.specs.Valid.{valid}
use Rattle.panels.specs.declared.Panel.{Panel}
use Rattle.panels.specs.declared.WRecord.{WRecord}
use Rattle.panels.specs.declared.KRecord.{KRecord}
use Rattle.panels.specs.declared.DisplayBox.{DisplayBox}
use Rattle.rs232c.specs.Replies as serial
use Rattle.kjw.specs.Replies as frames
use Rattle.vmc_asks.specs.Asks.{asks_status}
use Rattle.sdcp_asks.specs.Asks as packetAsks
use Rattle.sdcp_asks.proofs.Cast.{unless_not}
use Rattle.sdcp.specs.Replies as packets
use Rattle.sdcp.proofs.Refusals.{turned_answer}
use Rattle.steps.specs.Messages.{Message, rs232c, kjw, tcp, udp, Name, nobody, a_w, a_k, name_of, names, on_link, is_w, is_k}
use Rattle.steps.specs.Addressing.{target, any_called}
use Rattle.steps.specs.Step.{checks, to_nobody, door, turn, Outcome, panel_at, answer_to, step}
use Rattle.steps.proofs.Door.{Lends, by_rs232c, by_kjw, by_tcp_lem, nobody_shut, speaks}
use Rattle.steps.proofs.Validity.{bad_names, in_use_name, unused_name}
use Rattle.steps.proofs.Refusals.{too_small, no_such_panel}
use Rattle.steps.proofs.Addressed.{w_panel}
use Rattle.steps.proofs.Judged.{first_of, own_checks, serial_conditions, serial_answered, packet_conditions, packet_unclear, packet_answered, frame_conditions, frame_answered}

-- ---- the conditions

-- "no panel with that link number, or it is of the other family", and "a box handed in that breaks these rules [..] is answered as a box of
-- no panels": else there is a panel of the family on the link
abbrev pub has_panel : DisplayBox → ℕ → ℕ → Bool
has_panel b zero family = false
has_panel b (suc i) family = valid b && ltb i b.count && eqb (panel_at i b).family family

-- those of the answers, in the order of their checks: "reply area under 512 bytes", no panel, and what its protocol says of the others. "UDP
-- skips 1 and 2.", and document 02, §5, has 8 for UDP alone
abbrev pub conditions : DisplayBox → Message → List Bool
conditions b (rs232c l m area) = ltb (length area) 512 ∷ not (has_panel b l family_w) ∷ serial_conditions m
conditions b (kjw l m area) = ltb (length area) 512 ∷ not (has_panel b l family_k) ∷ frame_conditions m
conditions b (tcp l m area) = ltb (length area) 512 ∷ not (has_panel b l family_w) ∷ packet_conditions (eqb (target (names b) (tcp l m area)) 0) false m
conditions b (udp m) = false ∷ false ∷ packet_conditions (not (any_called m (names b))) (asks_status (packetAsks.data_of m)) m

-- ---- check 2 in words of the record

k_panel : (p : Panel) → is_k (name_of p) ≡ eqb p.family family_k
unfolding name_of
k_panel p = go (eqb p.family family_w) refl
  where
    other : (c : Bool) → is_k (cond c a_k nobody) ≡ c
    other true = refl
    other false = refl

    go : (a : Bool) → eqb p.family family_w ≡ a → is_k (cond a (a_w p.group p.unit) (cond (eqb p.family family_k) a_k nobody)) ≡ eqb p.family family_k
    go true e = ap (λ (x : ℕ). eqb x family_k) (sym (eqb-true p.family family_w e))
    go false e = other (eqb p.family family_k)

module _ (f : Name → Bool) (family : ℕ) (none : f nobody ≡ false) (named : (p : Panel) → f (name_of p) ≡ eqb p.family family) (b : DisplayBox) where
  -- whoever knows a panel's family by its name knows it on every link
  has_panel_lem : (l : ℕ) → f (on_link (names b) l) ≡ has_panel b l family
  has_panel_lem zero = none
  has_panel_lem (suc i) = judge (valid b) refl
    where
      place : (t : Bool) → ltb i b.count ≡ t → valid b ≡ true → f (get_or (names b) i nobody) ≡ (t && eqb (panel_at i b).family family)
      place true t v = ap f (in_use_name b i v (ltb-true i b.count t)) ∙ named (panel_at i b)
      place false t v = ap f (unused_name b i v (ltb-false i b.count t)) ∙ none

      judge : (v : Bool) → valid b ≡ v → f (get_or (names b) i nobody) ≡ (v && ltb i b.count && eqb (panel_at i b).family family)
      judge true v = place (ltb i b.count) refl v
      judge false v = ap (λ (ns : List Name). f (get_or ns i nobody)) (bad_names b v) ∙ none

w_has : (b : DisplayBox) (l : ℕ) → is_w (on_link (names b) l) ≡ has_panel b l family_w
w_has = has_panel_lem is_w family_w refl w_panel

k_has : (b : DisplayBox) (l : ℕ) → is_k (on_link (names b) l) ≡ has_panel b l family_k
k_has = has_panel_lem is_k family_k refl k_panel

-- ---- with a link

-- checks 1 and 2 come first; where neither applies the others follow
lent_checked : {l : ℕ} {area : List ℕ} {m : Message} (b : DisplayBox) (fits : Bool) (rest : List Bool) → Lends l area m → speaks m (on_link (names b) l) ≡ fits → (512 ≤ length area → fits ≡ true → number_of (step b m).answer ≡ first_of own_checks rest) → number_of (step b m).answer ≡ first_of checks (ltb (length area) 512 ∷ not fits ∷ rest)
lent_checked {l} {area} {m} b fits rest k s go = room (ltb (length area) 512) refl
  where
    number : Outcome → ℕ
    number o = number_of o.answer

    link : (f : Bool) → fits ≡ f → 512 ≤ length area → number_of (step b m).answer ≡ first_of (drop 1 checks) (not f ∷ rest)
    link true f h = go h f
    link false f h = ap number (no_such_panel b l area m k h (s ∙ f))

    room : (t : Bool) → ltb (length area) 512 ≡ t → number_of (step b m).answer ≡ first_of checks (t ∷ not fits ∷ rest)
    room true t = ap number (too_small b l area m k (ltb-true (length area) 512 t))
    room false t = link fits refl (ltb-false (length area) 512 t)

serial_checked : (b : DisplayBox) (l : ℕ) (m area : List ℕ) → 512 ≤ length area → is_w (on_link (names b) l) ≡ true → number_of (step b (rs232c l m area)).answer ≡ first_of own_checks (serial_conditions m)
unfolding step door turn target
serial_checked b l m area h w =
    rw (le-ltb (length area) 512 h, w)
    (ap (λ (t : Turn WRecord). number_of t.answer) (roomy (length area) (serial.turn_of m) _ h) ∙ serial_answered m _)

frame_checked : (b : DisplayBox) (l : ℕ) (m area : List ℕ) → 512 ≤ length area → is_k (on_link (names b) l) ≡ true → number_of (step b (kjw l m area)).answer ≡ first_of own_checks (frame_conditions m)
unfolding step door turn target
frame_checked b l m area h w =
    rw (le-ltb (length area) 512 h, w)
    (ap (λ (t : Turn KRecord). number_of t.answer) (roomy (length area) (frames.turn_of m) _ h) ∙ frame_answered m _)

-- ---- a packet

-- where nobody is addressed it is 3 or 4, and else what was heard decides
packet_checked : (b : DisplayBox) (x : Message) (m : List ℕ) (none asked : Bool) → door (names b) x ≡ cond none (to_nobody m) Done → answer_to (names b) b x ≡ packets.answer_of (packetAsks.unless_status asked (packetAsks.heard_of m)) → number_of (step b x).answer ≡ first_of own_checks (packet_conditions none asked m)
unfolding step to_nobody
packet_checked b x m true asked d a = rw (d, nobody_shut m, or-true (not (packetAsks.is_ours m))) (go (ltb (length m) 13))
  where
    go : (t : Bool) → number_of (cond t WrongLength NotForUs) ≡ first_of own_checks (t ∷ true ∷ packetAsks.request_wrong m ∷ packetAsks.item_wrong m ∷ packetAsks.too_long m ∷ packetAsks.not_matching m ∷ false ∷ false ∷ asked ∷ packet_unclear (packetAsks.heard_of m) ∷ [])
    go true = refl
    go false = refl
packet_checked b x m false asked d a = rw d (ap number_of a ∙ packet_answered m asked)

tcp_checked : (b : DisplayBox) (l : ℕ) (m area : List ℕ) → 512 ≤ length area → is_w (on_link (names b) l) ≡ true → number_of (step b (tcp l m area)).answer ≡ first_of own_checks (packet_conditions (eqb (target (names b) (tcp l m area)) 0) false m)
unfolding door turn
tcp_checked b l m area h w =
    packet_checked b (tcp l m area) m (eqb (target (names b) (tcp l m area)) 0) false (rw (le-ltb (length area) 512 h, w))
    (ap (λ (t : Turn WRecord). t.answer) (roomy (length area) (packets.turn_of m) _ h) ∙ turned_answer m (packetAsks.heard_of m) _ ∙ ap packets.answer_of (sym (unless_not (packetAsks.heard_of m))))

udp_checked : (b : DisplayBox) (m : List ℕ) → number_of (step b (udp m)).answer ≡ first_of own_checks (packet_conditions (not (any_called m (names b))) (asks_status (packetAsks.data_of m)) m)
unfolding door packetAsks.cast_of
udp_checked b m = packet_checked b (udp m) m (not (any_called m (names b))) (asks_status (packetAsks.data_of m)) (go (any_called m (names b))) refl
  where
    go : (t : Bool) → cond t Done (to_nobody m) ≡ cond (not t) (to_nobody m) Done
    go true = refl
    go false = refl

-- ---- the box

-- whatever the box and the message: the number of the first condition that holds, and 0 where none does
pub checked : (b : DisplayBox) (m : Message) → number_of (step b m).answer ≡ first_of checks (conditions b m)
checked b (rs232c l m area) = lent_checked b (has_panel b l family_w) (serial_conditions m) (by_rs232c m) (w_has b l) (λ h f. serial_checked b l m area h (w_has b l ∙ f))
checked b (kjw l m area) = lent_checked b (has_panel b l family_k) (frame_conditions m) (by_kjw m) (k_has b l) (λ h f. frame_checked b l m area h (k_has b l ∙ f))
checked b (tcp l m area) = lent_checked b (has_panel b l family_w) (packet_conditions (eqb (target (names b) (tcp l m area)) 0) false m) (by_tcp_lem m) (w_has b l) (λ h f. tcp_checked b l m area h (w_has b l ∙ f))
checked b (udp m) = udp_checked b m
