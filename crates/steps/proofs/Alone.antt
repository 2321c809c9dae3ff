-- Demand 3: a place's record and its replies are decided by the messages that are addressed to it. A step at one place is that
-- place's turn, so the general law of runs applies.
use mathlib.Core.Path.{◌≡◌, refl, sym, ap, ◌∙◌}
use mathlib.Core.Bool.{Bool, true, false, cond, ◌&&◌, and-true}
use mathlib.Core.List.{List, [], ◌∷◌}
use Prim.Native.Nat.{ℕ, ◌%◌, ◌<◌}
use lib.Dec.{eqb}
use lib.ListN.{length}
use Rattle.laws.proofs.Conditions.{choose}
use Rattle.laws.proofs.Lists.{places_length}
use Rattle.laws.proofs.Runs.{Alone, isolated}
use Rattle.terms.specs.declared.Answer.{Answer}
use Rattle.terms.specs.declared.Answer.TheVariants.{Done}
use Rattle.configure.specs.Configure.{asked_at, asked, refusal, configured}
use Rattle.panels.specs.Valid.{valid}
use Rattle.panels.specs.declared.Panel.{Panel}
use Rattle.panels.specs.declared.DisplayBox.{DisplayBox}
use Rattle.configure.specs.declared.Configured.{Configured}
use Rattle.steps.specs.Messages.{Message, Name, names}
use Rattle.steps.specs.Addressing.{addressed}
use Rattle.steps.specs.Step.{turn, Back, back, panel_at, own_turn, Outcome, passed, refused, door, step}
use Rattle.steps.specs.Run.{Got, got_by, after, run, next, kept, replies}
use Rattle.steps.proofs.Door.{opens}
use Rattle.steps.proofs.Turns.{at_step, unmeant, own_answer, own_back}
use Rattle.steps.proofs.Validity.{places_kept, names_kept}

-- what a panel that is addressed becomes, and what goes back for it: its turn, if the door is passed
abbrev becomes : List Name → Message → Panel → Panel
becomes ns m p = cond (opens ns m) (turn m p).after p

abbrev says : List Name → Message → Panel → Got
says ns m p = cond (opens ns m) (record { answer = (turn m p).answer; back = back m (turn m p).reply }) (record { answer = door ns m; back = back m [] })

got_step : (b : DisplayBox) (m : Message) (i : ℕ) → addressed (names b) m i ≡ true → got_by b m ≡ says (names b) m (panel_at i b)
unfolding step
got_step b m i e = go (opens (names b) m)
  where
    got : Outcome → Got
    got o = record { answer = o.answer; back = o.back }

    go : (o : Bool) → got (cond o (passed (names b) b m) (refused b m (door (names b) m))) ≡ cond o (record { answer = (turn m (panel_at i b)).answer; back = back m (turn m (panel_at i b)).reply }) (record { answer = door (names b) m; back = back m [] })
    go true =
        ap (λ (a : Answer). record { answer = a; back = back m (own_turn (names b) b m).reply }) (own_answer (names b) b m i e)
        ∙ ap (λ (x : Back). record { answer = (turn m (panel_at i b)).answer; back = x }) (own_back (names b) b m i e)
    go false = refl

turn_step : (b : DisplayBox) (m : Message) (i : ℕ) → addressed (names b) m i ≡ true → panel_at i (step b m).box ≡ becomes (names b) m (panel_at i b)
turn_step b m i e = at_step b m i ∙ rw (e, and-true (opens (names b) m))

alone : (i : ℕ) → Alone (λ (b : DisplayBox). i < length b.panels) names (panel_at i) after got_by next (λ (ns : List Name) (m : Message). addressed ns m i) becomes says
alone i = record {
  stays_sound = λ b m h. rw (places_kept b m) h;
  names_after = λ b m h. names_kept b m;
  names_kept = λ ns m e. refl;
  unmeant = λ b m h e. unmeant b m i e;
  turns = λ b m h e. turn_step b m i e;
  says_so = λ b m h e. got_step b m i e;
}

-- two runs of one box that keep the same messages for a place, in the same order, leave the same panel there and the same replies
-- to these messages: whatever else came, and however much of it
pub demand_3 : (b : DisplayBox) (i : ℕ) (ms ms' : List Message) → i < length b.panels → kept i (names b) ms ≡ kept i (names b) ms' → (panel_at i (run b ms) ≡ panel_at i (run b ms')) × (replies i b ms ≡ replies i b ms')
demand_3 b i ms ms' h k = isolated (alone i) b b ms ms' h h refl refl k

-- ---- struck out: the messages that are not addressed to the place may as well not have come

kept_kept : (i : ℕ) (ns : List Name) (ms : List Message) → kept i ns (kept i ns ms) ≡ kept i ns ms
kept_kept i ns [] = refl
kept_kept i ns (m ∷ ms) = go (addressed ns m i) refl (kept_kept i ns ms)
  where
    go : (c : Bool) → addressed ns m i ≡ c → kept i ns (kept i ns ms) ≡ kept i ns ms → kept i ns (cond c (m ∷ kept i ns ms) (kept i ns ms)) ≡ cond c (m ∷ kept i ns ms) (kept i ns ms)
    go true e r = rw e (ap (λ (x : List Message). m ∷ x) r)
    go false e r = r

pub struck_out : (b : DisplayBox) (i : ℕ) (ms : List Message) → i < length b.panels → (panel_at i (run b ms) ≡ panel_at i (run b (kept i (names b) ms))) × (replies i b ms ≡ replies i b (kept i (names b) ms))
struck_out b i ms h = demand_3 b i ms (kept i (names b) ms) h (sym (kept_kept i (names b) ms))

-- ---- of configured boxes

-- a configured box has eight places, whatever its panels
pub eight_places : (c : List ℕ) → length (configured c).made.panels ≡ 8
unfolding configured asked
eight_places c = choose (λ (r : Configured). length r.made.panels ≡ 8) (eqb (length c % 3) 0 && valid (asked c)) (record { answer = Done; made = asked c }) refusal (λ e. places_length 8 0 (asked_at c)) (λ e. refl)

-- the same of every box that a configuration gives, and of each of its panels, W or K
pub demand_3_configured : (c : List ℕ) (i : ℕ) (ms ms' : List Message) → i < 8 → kept i (names (configured c).made) ms ≡ kept i (names (configured c).made) ms' → (panel_at i (run (configured c).made ms) ≡ panel_at i (run (configured c).made ms')) × (replies i (configured c).made ms ≡ replies i (configured c).made ms')
demand_3_configured c i ms ms' h k = demand_3 (configured c).made i ms ms' (rw (eight_places c) h) k
