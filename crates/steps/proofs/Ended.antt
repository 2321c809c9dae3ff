-- Document 02, §2, over the box: a packet whose string has an end does what it does without, to any box, by TCP and by UDP. Whom it
-- comes to is read off its first eight bytes, and what each panel does with it is the same (`turn_ended`).
use Prim.Native.Nat.{ℕ, suc, ◌-◌}
use mathlib.Core.Path.{◌≡◌, refl, sym, ap, fun_ext, ◌∙◌}
use mathlib.Core.Bool.{Bool, cond}
use mathlib.Core.List.{List, [], ◌∷◌}
use native.Mathlib.Omega.{arith}
use lib.Dec.{eqb}
use lib.ListN.{length, get_or, take}
use borrow.Author.Tests.{le-ltb}
use Rattle.laws.specs.Runs.{each}
use Rattle.terms.specs.Answers.{number_of}
use Rattle.terms.specs.declared.Answer.{Answer}
use Rattle.terms.specs.declared.Answer.TheVariants.{Done}
use Rattle.turns.specs.Turns.{Turn, taken, turn_with}
use Rattle.panels.specs.declared.WRecord.{WRecord}
use Rattle.panels.specs.declared.Panel.{Panel}
use Rattle.panels.specs.declared.DisplayBox.{DisplayBox}
use Rattle.sdcp_asks.specs.Asks.{cast_of, Heard}
use Rattle.sdcp.specs.Replies.{answer_of, turn_of, cast_turn_of}
use Rattle.sdcp.proofs.Ended.{EndedAs, first, turn_ended, cast_ended, cast_turn_ended}
use Rattle.steps.specs.Messages.{Name, nobody, is_w, on_link, names, tcp, udp}
use Rattle.steps.specs.Addressing.{by_tcp, target, is_called, addressed, any_called}
use Rattle.steps.specs.Step.{with_w, with_panels, if_open, to_nobody, door, turn, back_on, nothing, panel_at, Outcome, step}
use Rattle.steps.proofs.Addressed.{target_alike, called_alike}

-- the step by TCP, of what it reads of a packet: whose turn it is, the answer where it is nobody's, and what a panel does with it
by_link : DisplayBox → ℕ → List ℕ → ℕ → Answer → (WRecord → Turn WRecord) → Outcome
by_link b l area n none does = cond (eqb (number_of checked) 0) done (record { box = b; answer = checked; back = back_on area [] })
  where
    checked : Answer
    checked = if_open area (is_w (on_link (names b) l)) (cond (eqb n 0) none Done)

    turns : Panel → Turn Panel
    turns x = turn_with (with_w x) (taken (length area) does x.w)

    done : Outcome
    done = record { box = with_panels b (each (λ (i : ℕ). eqb n (suc i)) (λ (x : Panel). (turns x).after) b.panels); answer = (turns (panel_at (n - 1) b)).answer; back = back_on area (turns (panel_at (n - 1) b)).reply }

by_link_lem : (b : DisplayBox) (l : ℕ) (m area : List ℕ) → step b (tcp l m area) ≡ by_link b l area (by_tcp (names b) l m) (to_nobody m) (turn_of m)
unfolding by_link step door turn target addressed
by_link_lem b l m area = refl

-- and by UDP: whom it calls, what the packet is answered with, and what a panel does with it
by_call : DisplayBox → (Name → Bool) → Bool → Answer → Answer → (WRecord → Turn WRecord) → Outcome
by_call b calls any none heard does = cond (eqb (number_of (cond any Done none)) 0) done (record { box = b; answer = cond any Done none; back = nothing })
  where
    done : Outcome
    done = record { box = with_panels b (each (λ (i : ℕ). calls (get_or (names b) i nobody)) (λ (x : Panel). (turn_with (with_w x) (does x.w)).after) b.panels); answer = heard; back = nothing }

by_call_lem : (b : DisplayBox) (m : List ℕ) → step b (udp m) ≡ by_call b (is_called m) (any_called m (names b)) (to_nobody m) (answer_of (cast_of m)) (cast_turn_of m)
unfolding by_call step door turn addressed
by_call_lem b m = refl

module _ (p q : List ℕ) (e : EndedAs p q) where
  eight_alike : take 8 q ≡ take 8 p
  eight_alike = first p q e 8 (omega arith)

  nobody_alike : to_nobody q ≡ to_nobody p
  unfolding to_nobody
  nobody_alike = rw (le-ltb (length q) 13 e.ended_long, le-ltb (length p) 13 e.long)

  any_alike : (ns : List Name) → any_called q ns ≡ any_called p ns
  any_alike [] = refl
  any_alike (x ∷ ns) = rw (called_alike [] q p eight_alike x, any_alike ns)

  turns_alike : turn_of q ≡ turn_of p
  turns_alike = fun_ext (turn_ended p q e)

  casts_alike : cast_turn_of q ≡ cast_turn_of p
  casts_alike = fun_ext (cast_turn_ended p q e)

  -- box, answer, the reply's length and every byte of the area
  pub ended_tcp : (b : DisplayBox) (l : ℕ) (area : List ℕ) → step b (tcp l q area) ≡ step b (tcp l p area)
  ended_tcp b l area = by_link_lem b l q area ∙ alike ∙ sym (by_link_lem b l p area)
    where
      alike : by_link b l area (by_tcp (names b) l q) (to_nobody q) (turn_of q) ≡ by_link b l area (by_tcp (names b) l p) (to_nobody p) (turn_of p)
      alike =
          ap (λ (n : ℕ). by_link b l area n (to_nobody q) (turn_of q)) (target_alike (names b) q p eight_alike l)
          ∙ ap (λ (a : Answer). by_link b l area (by_tcp (names b) l p) a (turn_of q)) nobody_alike
          ∙ ap (by_link b l area (by_tcp (names b) l p) (to_nobody p)) turns_alike

  pub ended_udp : (b : DisplayBox) → step b (udp q) ≡ step b (udp p)
  ended_udp b = by_call_lem b q ∙ alike ∙ sym (by_call_lem b p)
    where
      alike : by_call b (is_called q) (any_called q (names b)) (to_nobody q) (answer_of (cast_of q)) (cast_turn_of q) ≡ by_call b (is_called p) (any_called p (names b)) (to_nobody p) (answer_of (cast_of p)) (cast_turn_of p)
      alike =
          ap (λ (f : Name → Bool). by_call b f (any_called q (names b)) (to_nobody q) (answer_of (cast_of q)) (cast_turn_of q)) (fun_ext (called_alike [] q p eight_alike))
          ∙ ap (λ (c : Bool). by_call b (is_called p) c (to_nobody q) (answer_of (cast_of q)) (cast_turn_of q)) (any_alike (names b))
          ∙ ap (λ (a : Answer). by_call b (is_called p) (any_called p (names b)) a (answer_of (cast_of q)) (cast_turn_of q)) nobody_alike
          ∙ ap (λ (x : Heard). by_call b (is_called p) (any_called p (names b)) (to_nobody p) (answer_of x) (cast_turn_of q)) (cast_ended p q e)
          ∙ ap (by_call b (is_called p) (any_called p (names b)) (to_nobody p) (answer_of (cast_of p))) casts_alike
