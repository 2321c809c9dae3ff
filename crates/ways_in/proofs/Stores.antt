-- A message with a link is one store: the pointwise step calls one place, so it sets that panel and leaves the rest.
use Prim.Native.Nat.{ℕ, suc, ◌+◌, ◌-◌, ◌≤◌}
use mathlib.Core.Path.{◌≡◌, refl, sym, ap, subst, ◌∙◌}
use mathlib.Core.Bool.{Bool, true, false, cond, ◌&&◌}
use mathlib.Core.List.{List, [], ◌∷◌}
use native.Mathlib.Omega.{arith}
use lib.Dec.{eqb}
use lib.ListN.{length, get_or, set}
use borrow.Author.Tests.{eq-eqb, ne_eqb}
use Rattle.laws.specs.Runs.{each}
use Rattle.laws.proofs.Runs.{each_one}
use Rattle.terms.specs.Answers.{number_of}
use Rattle.terms.specs.declared.Answer.{Answer}
use Rattle.terms.specs.declared.Answer.TheVariants.{Done}
use Rattle.terms.specs.declared.Outcome.{Outcome as OutcomeOf}
use Rattle.turns.specs.Turns.{Turn}
use Rattle.panels.specs.Records.{past_end}
use Rattle.panels.specs.declared.Panel.{Panel}
use Rattle.panels.specs.declared.DisplayBox.{DisplayBox}
use Rattle.steps.specs.Messages.{Message, rs232c, kjw, tcp, udp, Name, names}
use Rattle.steps.specs.Addressing as addressing
use Rattle.steps.specs.Addressing.{target, addressed, by_tcp, is_id}
use Rattle.steps.specs.Step.{with_panels, door, turn, Back, back_on, back, Outcome as Stepped, panel_at, passed, refused, step}
use Rattle.addresses.specs.declared.Line.{Line}
use Rattle.addresses.specs.declared.Line.TheVariants.{Rs232c, Kjw, Tcp}
use Rattle.ways_in.specs.Promise.{Steps, message_of}
use Rattle.ways_in.specs.Turns.{Acts, resting}
use Rattle.ways_in.specs.declared.Outcome.{Outcome}

-- the promise, from the step's outcome
pub steps : (b : DisplayBox) (m : Message) (r : Outcome) (area' : List ℕ) (o : Stepped) → step b m ≡ o → r.after ≡ o.box → r.answer ≡ o.answer → r.len ≡ o.back.len → r.done ≡ eqb (number_of o.answer) 0 → area' ≡ o.back.area → Steps b m r area'
steps b m r area' o e p q s d t = record {
  after_is = p ∙ ap (λ (x : Stepped). x.box) (sym e);
  answer_is = q ∙ ap (λ (x : Stepped). x.answer) (sym e);
  length_is = s ∙ ap (λ (x : Stepped). x.back.len) (sym e);
  done_is = d ∙ ap (λ (x : Stepped). eqb (number_of x.answer) 0) (sym e);
  area_is = t ∙ ap (λ (x : Stepped). x.back.area) (sym e);
}

-- a refusal
pub refuses : (b : DisplayBox) (m : Message) (area : List ℕ) (a : Answer) (r : Outcome) → step b m ≡ refused b m a → r ≡ resting b a → back m [] ≡ record { len = 0; area = area } → Steps b m r area
refuses b m area a r e f q = steps b m r area (refused b m a) e (ap (λ (x : Outcome). x.after) f) (ap (λ (x : Outcome). x.answer) f) (ap (λ (x : Outcome). x.len) f ∙ ap (λ (x : Back). x.len) (sym q)) (ap (λ (x : Outcome). x.done) f) (ap (λ (x : Back). x.area) (sym q))

-- a message with a link
abbrev pub Lent : Message → Type 0
Lent (rs232c l m area) = Unit {0}
Lent (kjw l m area) = Unit {0}
Lent (tcp l m area) = Unit {0}
Lent (udp m) = ⊥

-- what one panel's turn makes of the box
abbrev pub stored : DisplayBox → Message → ℕ → Stepped
stored b m i = record {
  box = with_panels b (set b.panels i (turn m (panel_at i b)).after);
  answer = (turn m (panel_at i b)).answer;
  back = back m (turn m (panel_at i b)).reply;
}

one_store : (t : ℕ) (f : Panel → Panel) (ps : List Panel) → 1 ≤ t → t ≤ length ps → each (λ (i : ℕ). eqb t (suc i)) f ps ≡ set ps (t - 1) (f (get_or ps (t - 1) past_end))
one_store t f ps h k = each_one (λ (i : ℕ). eqb t (suc i)) f ps (t - 1) past_end (omega arith) (eq-eqb t (suc (t - 1)) (omega arith)) (λ j n. ne_eqb t (suc j) (λ e. n (omega arith)))

passed_store : (b : DisplayBox) (m : Message) → Lent m → 1 ≤ target (names b) m → target (names b) m ≤ length b.panels → passed (names b) b m ≡ stored b m (target (names b) m - 1)
unfolding addressed
passed_store b (rs232c l m area) n h k = ap (λ (ps : List Panel). record { box = with_panels b ps; answer = (turn (rs232c l m area) (panel_at (target (names b) (rs232c l m area) - 1) b)).answer; back = back (rs232c l m area) (turn (rs232c l m area) (panel_at (target (names b) (rs232c l m area) - 1) b)).reply }) (one_store (target (names b) (rs232c l m area)) (λ (p : Panel). (turn (rs232c l m area) p).after) b.panels h k)
passed_store b (kjw l m area) n h k = ap (λ (ps : List Panel). record { box = with_panels b ps; answer = (turn (kjw l m area) (panel_at (target (names b) (kjw l m area) - 1) b)).answer; back = back (kjw l m area) (turn (kjw l m area) (panel_at (target (names b) (kjw l m area) - 1) b)).reply }) (one_store (target (names b) (kjw l m area)) (λ (p : Panel). (turn (kjw l m area) p).after) b.panels h k)
passed_store b (tcp l m area) n h k = ap (λ (ps : List Panel). record { box = with_panels b ps; answer = (turn (tcp l m area) (panel_at (target (names b) (tcp l m area) - 1) b)).answer; back = back (tcp l m area) (turn (tcp l m area) (panel_at (target (names b) (tcp l m area) - 1) b)).reply }) (one_store (target (names b) (tcp l m area)) (λ (p : Panel). (turn (tcp l m area) p).after) b.panels h k)
passed_store b (udp m) n h k = absurd n

-- a message that the door lets in is the turn of the panel it is meant for
pub one_turn : (b : DisplayBox) (m : Message) (t : ℕ) → Lent m → door (names b) m ≡ Done → target (names b) m ≡ t → 1 ≤ t → t ≤ length b.panels → step b m ≡ stored b m (t - 1)
unfolding step
one_turn b m t n d e h k = rw d (passed_store b m n (omega (arith, e, h)) (omega (arith, e, k)) ∙ ap (λ (j : ℕ). stored b m (j - 1)) e)

-- a pair's number is that of a name
number_bound : (n : ℕ) (ns : List Name) → (g u : ℕ) → addressing.pair_number (record { 0 = g }) (record { 0 = u }) (suc n) ns ≤ n + length ns
unfolding addressing.pair_number
number_bound n [] g u = omega arith
number_bound n (x ∷ ns) g u = go (addressing.is_pair (record { 0 = g }) (record { 0 = u }) x) (number_bound (suc n) ns g u)
  where
    go : (c : Bool) → addressing.pair_number (record { 0 = g }) (record { 0 = u }) (suc (suc n)) ns ≤ suc n + length ns → cond c (suc n) (addressing.pair_number (record { 0 = g }) (record { 0 = u }) (suc (suc n)) ns) ≤ n + suc (length ns)
    go true r = omega arith
    go false r = omega arith

-- so by TCP the number is one of the box's
pub tcp_bound : (ns : List Name) (l : ℕ) (m : List ℕ) → l ≤ length ns → by_tcp ns l m ≤ length ns
unfolding by_tcp
tcp_bound ns l m h = go (addressing.has_ids m) (eqb (get_or m 6 0) 0 && eqb (get_or m 7 0) 0) (is_id (get_or m 6 0) && is_id (get_or m 7 0)) (number_bound 0 ns (get_or m 6 0) (get_or m 7 0))
  where
    go : (a z i : Bool) → addressing.pair_number (record { 0 = get_or m 6 0 }) (record { 0 = get_or m 7 0 }) 1 ns ≤ 0 + length ns → cond a (cond z l (cond i (addressing.pair_number (record { 0 = get_or m 6 0 }) (record { 0 = get_or m 7 0 }) 1 ns) 0)) 0 ≤ length ns
    go true true i r = h
    go true false true r = omega arith
    go true false false r = omega arith
    go false z i r = omega arith

-- a turn does not look at the link
turn_same : (line : Line) (l : ℕ) (m area : List ℕ) (p : Panel) → turn (message_of line 0 m area) p ≡ turn (message_of line l m area) p
unfolding turn
turn_same Rs232c l m area p = refl
turn_same Kjw l m area p = refl
turn_same Tcp l m area p = refl

lent_back : (line : Line) (l : ℕ) (m area reply : List ℕ) → back (message_of line l m area) reply ≡ back_on area reply
lent_back Rs232c l m area reply = refl
lent_back Kjw l m area reply = refl
lent_back Tcp l m area reply = refl

-- the panel's turn, stored at its place
pub acted : (line : Line) (b : DisplayBox) (l : ℕ) (m area : List ℕ) (i : ℕ) (p : Panel) (t : OutcomeOf Panel) (area' : List ℕ) (r : Outcome) → step b (message_of line l m area) ≡ stored b (message_of line l m area) i → p ≡ panel_at i b → Acts (turn (message_of line 0 m area) p) area t area' → r.after ≡ with_panels b (set b.panels i t.after) → r.answer ≡ t.answer → r.len ≡ t.len → r.done ≡ eqb (number_of t.answer) 0 → Steps b (message_of line l m area) r area'
acted line b l m area i p t area' r e q a x y z d =
    let msg = message_of line l m area in
    let u : turn (message_of line 0 m area) p ≡ turn msg (panel_at i b) = ap (turn (message_of line 0 m area)) q ∙ turn_same line l m area (panel_at i b) in
    let v = subst (λ (w : Turn Panel). Acts w area t area') u a in
    let k = lent_back line l m area (turn msg (panel_at i b)).reply in
    steps b msg r area' (stored b msg i) e
    (x ∙ ap (λ (o : Panel). with_panels b (set b.panels i o)) v.after_is) (y ∙ v.answer_is)
    (z ∙ v.sends.length_is ∙ ap (λ (o : Back). o.len) (sym k)) (d ∙ ap (λ (o : Answer). eqb (number_of o) 0) v.answer_is) (v.sends.area_is ∙ ap (λ (o : Back). o.area) (sym k))
