-- What one place sees of a step: its panel takes its turn where the message comes to it, or stays as it was, since the step asks
-- each place alone.
use Prim.Native.Nat.{ℕ, zero, suc, ◌-◌, ◌<◌, ◌≤◌}
use mathlib.Core.Path.{◌≡◌, refl, sym, ap, subst, ◌∙◌}
use mathlib.Core.Bool.{Bool, true, false, cond, ◌&&◌}
use mathlib.Core.List.{List, [], ◌∷◌, map}
use native.Mathlib.Omega.{arith}
use lib.Dec.{eqb}
use lib.ListN.{length, get_or, length-take, length-map}
use borrow.Author.Tests.{eqb-true}
use Rattle.laws.specs.Runs.{each}
use Rattle.laws.proofs.Conditions.{choose, false_true, and_first, and_second}
use Rattle.terms.specs.declared.Answer.TheVariants.{Done}
use Rattle.turns.specs.Turns.{Turn}
use Rattle.panels.specs.Records.{past_end}
use Rattle.panels.specs.Valid.{in_use, valid}
use Rattle.panels.specs.declared.Panel.{Panel}
use Rattle.panels.specs.declared.DisplayBox.{DisplayBox}
use Rattle.sdcp_asks.specs.Asks.{cast_of}
use Rattle.sdcp.proofs.Refusals.{turned_answer}
use Rattle.steps.specs.Messages.{Message, Name, nobody, name_of, names}
use Rattle.steps.specs.Addressing.{target, addressed}
use Rattle.steps.specs.Step.{door, turn, back, Outcome, panel_at, own_turn, answer_to, passed, refused, step}
use Rattle.steps.proofs.Door.{Lends, by_rs232c, by_kjw, by_tcp_lem, by_way, opens, opens_done, done_opens, by_door, speaks, nobody_speaks, door_passed, its_family}

-- a message comes to the panel at place i: it passes the checks before the panels, and is addressed to that place
pub record Reaches (b : DisplayBox) (m : Message) (i : ℕ) : Type 0 where
  pub passes : door (names b) m ≡ Done
  pub meant : addressed (names b) m i ≡ true

-- 1: "reply area under 512 bytes": with a link, such a message has room for its reply
pub has_room : {b : DisplayBox} {m : Message} {i l : ℕ} {area : List ℕ} → Lends l area m → Reaches b m i → 512 ≤ length area
has_room {b} k r = (door_passed (names b) k r.passes).room

-- an answer of 0 has passed the checks before the panels
pub done_passes : (b : DisplayBox) (m : Message) → (step b m).answer ≡ Done → door (names b) m ≡ Done
done_passes b m = by_door (λ (o : Outcome). o.answer ≡ Done → door (names b) m ≡ Done) b m (λ e d. opens_done (names b) m e) (λ e d. d)

-- a message that is answered 0 comes to each panel that it is addressed to
pub done_reaches : (b : DisplayBox) (m : Message) (i : ℕ) → (step b m).answer ≡ Done → addressed (names b) m i ≡ true → Reaches b m i
done_reaches b m i d a = record { passes = done_passes b m d; meant = a }

-- ---- a place that a message comes to is one of the box

inside : (ns : List Name) (i : ℕ) (f : Name → Bool) → f nobody ≡ false → f (get_or ns i nobody) ≡ true → i < length ns
inside [] i f n e = absurd (false_true (sym n ∙ e))
inside (x ∷ ns) zero f n e = omega arith
inside (x ∷ ns) (suc i) f n e = let h = inside ns i f n e in omega arith

names_length : (b : DisplayBox) → length (names b) ≤ length b.panels
unfolding names
names_length b = go (valid b)
  where
    go : (v : Bool) → length (cond v (map name_of (in_use b)) []) ≤ length b.panels
    go true = rw (length-map (in_use b) name_of, length-take b.count b.panels) (omega arith)
    go false = omega arith

pub reaches_inside : {b : DisplayBox} {m : Message} {i : ℕ} → Reaches b m i → i < length b.panels
reaches_inside {b} {m} {i} r =
    let h = inside (names b) i (speaks m) (nobody_speaks m) (its_family (names b) m i r.passes r.meant) in
    let k = names_length b in
    omega arith

-- ---- the turn is taken, or the panel stays

each_place : (called : ℕ → Bool) (f : Panel → Panel) (ps : List Panel) (i : ℕ) → (called i ≡ true → i < length ps) → get_or (each called f ps) i past_end ≡ cond (called i) (f (get_or ps i past_end)) (get_or ps i past_end)
each_place called f [] i h = go (called i) h
  where
    go : (c : Bool) → (c ≡ true → i < 0) → past_end ≡ cond c (f past_end) past_end
    go true k = absurd (let z = k refl in omega arith)
    go false k = refl
each_place called f (p ∷ ps) zero h = refl
each_place called f (p ∷ ps) (suc i) h = each_place (λ (j : ℕ). called (suc j)) f ps i (λ e. let k = h e in omega arith)

-- the panel at a place after a step: its turn where the door is passed and it is addressed, else the panel as it was
pub at_step : (b : DisplayBox) (m : Message) (i : ℕ) → panel_at i (step b m).box ≡ cond (opens (names b) m && addressed (names b) m i) (turn m (panel_at i b)).after (panel_at i b)
unfolding step
at_step b m i = go (opens (names b) m) refl
  where
    go : (o : Bool) → opens (names b) m ≡ o → panel_at i (cond o (passed (names b) b m) (refused b m (door (names b) m))).box ≡ cond (o && addressed (names b) m i) (turn m (panel_at i b)).after (panel_at i b)
    go true o =
        each_place (addressed (names b) m) (λ (p : Panel). (turn m p).after) b.panels i
        (λ a. reaches_inside (record { passes = opens_done (names b) m o; meant = a }))
    go false o = refl

-- what holds of a panel, and of its turn where the message comes to it, holds of it after any step
pub at_place : (P : Panel → Type 0) (b : DisplayBox) (m : Message) (i : ℕ) → P (panel_at i b) → (Reaches b m i → P (turn m (panel_at i b)).after) → P (panel_at i (step b m).box)
at_place P b m i p q =
    subst P (sym (at_step b m i))
    (choose P (opens (names b) m && addressed (names b) m i) (turn m (panel_at i b)).after (panel_at i b)
    (λ e. q (record { passes = opens_done (names b) m (and_first (opens (names b) m) (addressed (names b) m i) e); meant = and_second (opens (names b) m) (addressed (names b) m i) e }))
    (λ e. p))

pub either : (P : Panel → Type 0) (b : DisplayBox) (m : Message) (i : ℕ) → P (panel_at i b) → P (turn m (panel_at i b)).after → P (panel_at i (step b m).box)
either P b m i p q = at_place P b m i p (λ r. q)

-- a message that is not addressed to place i leaves its panel as it is
pub unmeant : (b : DisplayBox) (m : Message) (i : ℕ) → addressed (names b) m i ≡ false → panel_at i (step b m).box ≡ panel_at i b
unmeant b m i n = at_place (λ (p : Panel). p ≡ panel_at i b) b m i refl (λ r. absurd (false_true (sym n ∙ r.meant)))

-- the panel that a message comes to takes its turn
pub takes : {b : DisplayBox} {m : Message} {i : ℕ} → Reaches b m i → panel_at i (step b m).box ≡ (turn m (panel_at i b)).after
takes {b} {m} {i} r = at_step b m i ∙ rw (done_opens (names b) m r.passes, r.meant)

-- ---- what is answered, and what goes back

-- the turn that a message with a link is answered with is that of the panel addressed
pub own_turn_lem : {l : ℕ} {area : List ℕ} {m : Message} (ns : List Name) (b : DisplayBox) (i : ℕ) → Lends l area m → addressed ns m i ≡ true → own_turn ns b m ≡ turn m (panel_at i b)
unfolding addressed
own_turn_lem {l} {area} {m} ns b i k a = ap (λ (j : ℕ). turn m (panel_at j b)) (place k a)
  where
    less : (t : ℕ) → eqb t (suc i) ≡ true → t - 1 ≡ i
    less t e = let q = eqb-true t (suc i) e in omega arith

    place : {n : Message} → Lends l area n → addressed ns n i ≡ true → target ns n - 1 ≡ i
    place {n} (by_rs232c x) e = less (target ns n) e
    place {n} (by_kjw x) e = less (target ns n) e
    place {n} (by_tcp_lem x) e = less (target ns n) e

-- a message with a link has the answer and the reply of the one panel that it comes to
pub record GoesBack (b : DisplayBox) (m : Message) (i : ℕ) : Type 0 where
  pub answer_is : (step b m).answer ≡ (turn m (panel_at i b)).answer
  pub back_is : (step b m).back ≡ back m (turn m (panel_at i b)).reply

link_answer : {l : ℕ} {area : List ℕ} {m : Message} (ns : List Name) (b : DisplayBox) → Lends l area m → answer_to ns b m ≡ (own_turn ns b m).answer
link_answer ns b (by_rs232c m) = refl
link_answer ns b (by_kjw m) = refl
link_answer ns b (by_tcp_lem m) = refl

pub goes_back : {b : DisplayBox} {m : Message} {i l : ℕ} {area : List ℕ} → Lends l area m → Reaches b m i → GoesBack b m i
unfolding step
goes_back {b} {m} {i} k r = record {
  answer_is = ap (λ (o : Outcome). o.answer) e ∙ link_answer (names b) b k ∙ ap (λ (t : Turn Panel). t.answer) (own_turn_lem (names b) b i k r.meant);
  back_is = ap (λ (o : Outcome). o.back) e ∙ ap (λ (t : Turn Panel). back m t.reply) (own_turn_lem (names b) b i k r.meant);
}
  where
    e : step b m ≡ passed (names b) b m
    e = rw r.passes

-- the answer given is that of each panel addressed: by UDP it is that of what was heard, the same for all
pub own_answer : (ns : List Name) (b : DisplayBox) (m : Message) (i : ℕ) → addressed ns m i ≡ true → answer_to ns b m ≡ (turn m (panel_at i b)).answer
unfolding turn
own_answer ns b m i =
    by_way (λ (x : Message). addressed ns x i ≡ true → answer_to ns b x ≡ (turn x (panel_at i b)).answer)
    (λ l area x k a. link_answer ns b k ∙ ap (λ (t : Turn Panel). t.answer) (own_turn_lem ns b i k a))
    (λ x a. sym (turned_answer x (cast_of x) (panel_at i b).w)) m

-- and what goes back is its reply: by UDP nothing does
pub own_back : (ns : List Name) (b : DisplayBox) (m : Message) (i : ℕ) → addressed ns m i ≡ true → back m (own_turn ns b m).reply ≡ back m (turn m (panel_at i b)).reply
own_back ns b m i =
    by_way (λ (x : Message). addressed ns x i ≡ true → back x (own_turn ns b x).reply ≡ back x (turn x (panel_at i b)).reply)
    (λ l area x k a. ap (λ (t : Turn Panel). back x t.reply) (own_turn_lem ns b i k a)) (λ x a. refl) m
