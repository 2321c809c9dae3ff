-- Where the reply area is long enough, a packet by TCP does the same to the box and the same goes back, whatever the area: it is looked at
-- only by check 1.
use Prim.Native.Nat.{ℕ, suc, ◌-◌, ◌≤◌}
use mathlib.Core.Path.{◌≡◌, refl, sym, ap, ◌∙◌}
use mathlib.Core.Bool.{Bool, true, false, cond}
use mathlib.Core.List.{List, [], ◌∷◌}
use lib.ListN.{length, take, drop}
use lib.Seq.{take-append_seam}
use lib.Dec.{eqb}
use borrow.Author.Tests.{le-ltb}
use Rattle.laws.specs.Bytes.{sent}
use Rattle.laws.specs.Runs.{each}
use Rattle.terms.specs.Answers.{number_of}
use Rattle.terms.specs.declared.Answer.{Answer}
use Rattle.turns.specs.Turns.{Turn, turn_with}
use Rattle.turns.proofs.Turns.{roomy}
use Rattle.panels.specs.declared.Panel.{Panel}
use Rattle.panels.specs.declared.DisplayBox.{DisplayBox}
use Rattle.sdcp.specs.Replies.{turn_of}
use Rattle.steps.specs.Messages.{tcp, Name, names}
use Rattle.steps.specs.Addressing.{by_tcp, target, addressed}
use Rattle.steps.specs.Step.{with_w, with_panels, door, turn, Outcome, panel_at, own_turn, passed, refused, step}
use Rattle.cuts.specs.Exchanges.{exchanged}

-- what the box becomes, says and sends back
pub record Same (o o' : Outcome) : Type 0 where
  pub box_same : o.box ≡ o'.box
  pub answer_same : o.answer ≡ o'.answer
  pub reply_same : take o.back.len o.back.area ≡ take o'.back.len o'.back.area

front : (area reply : List ℕ) → take (length reply) (sent reply area) ≡ reply
front area reply = take-append_seam reply (drop (length reply) area)

module _ (l : ℕ) (m a a' : List ℕ) (h : 512 ≤ length a) (h' : 512 ≤ length a') where
  door_same : (ns : List Name) → door ns (tcp l m a) ≡ door ns (tcp l m a')
  unfolding door target
  door_same ns = rw (le-ltb (length a) 512 h, le-ltb (length a') 512 h')

  turn_same : (p : Panel) → turn (tcp l m a) p ≡ turn (tcp l m a') p
  unfolding turn
  turn_same p = ap (turn_with (with_w p)) (roomy (length a) (turn_of m) p.w h ∙ sym (roomy (length a') (turn_of m) p.w h'))

  own_same : (ns : List Name) (b : DisplayBox) → own_turn ns b (tcp l m a) ≡ own_turn ns b (tcp l m a')
  unfolding target
  own_same ns b = turn_same (panel_at (by_tcp ns l m - 1) b)

  each_same : (called called' : ℕ → Bool) (ps : List Panel) → ((i : ℕ) → called i ≡ called' i)
      → each called (λ (p : Panel). (turn (tcp l m a) p).after) ps ≡ each called' (λ (p : Panel). (turn (tcp l m a') p).after) ps
  each_same called called' [] e = refl
  each_same called called' (p ∷ ps) e = rw (turn_same p, e 0, each_same (λ (i : ℕ). called (suc i)) (λ (i : ℕ). called' (suc i)) ps (λ i. e (suc i)))

  called_same : (ns : List Name) (i : ℕ) → addressed ns (tcp l m a) i ≡ addressed ns (tcp l m a') i
  unfolding addressed target
  called_same ns i = refl

  passed_same : (ns : List Name) (b : DisplayBox) → Same (passed ns b (tcp l m a)) (passed ns b (tcp l m a'))
  passed_same ns b =
      let o = own_same ns b in
      record {
        box_same = ap (with_panels b) (each_same (addressed ns (tcp l m a)) (addressed ns (tcp l m a')) b.panels (called_same ns));
        answer_same = ap (λ (t : Turn Panel). t.answer) o;
        reply_same = front a (own_turn ns b (tcp l m a)).reply ∙ ap (λ (t : Turn Panel). t.reply) o ∙ sym (front a' (own_turn ns b (tcp l m a')).reply);
      }

  pub step_same : (b : DisplayBox) → Same (step b (tcp l m a)) (step b (tcp l m a'))
  unfolding step
  step_same b = rw (door_same (names b)) (go (eqb (number_of (door (names b) (tcp l m a'))) 0))
    where
      go : (o : Bool) → Same (cond o (passed (names b) b (tcp l m a)) (refused b (tcp l m a) (door (names b) (tcp l m a')))) (cond o (passed (names b) b (tcp l m a')) (refused b (tcp l m a') (door (names b) (tcp l m a'))))
      go true = passed_same (names b) b
      go false = record { box_same = refl; answer_same = refl; reply_same = refl }

  pub exchange_same : (b : DisplayBox) → exchanged m (step b (tcp l m a)) ≡ exchanged m (step b (tcp l m a'))
  exchange_same b =
      let s = step_same b in
      ap (λ (x : Answer). record { packet = m; answer = x; reply = take (step b (tcp l m a)).back.len (step b (tcp l m a)).back.area }) s.answer_same
      ∙ ap (λ (x : List ℕ). record { packet = m; answer = (step b (tcp l m a')).answer; reply = x }) s.reply_same
