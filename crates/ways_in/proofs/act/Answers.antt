-- `act` is the protocol's turn on the panel's own record.
use Prim.Native.Nat.{ℕ}
use mathlib.Core.Path.{◌≡◌, sym, ap, subst, ◌∙◌}
use mathlib.Core.List.{List}
use lib.ListN.{length}
use borrow.Author.Rules.{rules}
use Rattle.laws.specs.Bytes.{Sent}
use Rattle.terms.specs.declared.Outcome.{Outcome as OutcomeOf}
use Rattle.turns.specs.Turns.{Turn, taken, turn_with, Takes}
use Rattle.panels.specs.declared.Panel.{Panel}
use Rattle.steps.specs.Step.{with_w, with_k, turn}
use Rattle.ways_in.specs.Turns.{Acts}
use Rattle.ways_in.proofs.act.Goals as goal

-- what a protocol's door promises of the record is promised of the panel that has it
acts : {R : Type 0} (panel : R → Panel) (f : R → Turn R) (x : R) (area : List ℕ) (t : OutcomeOf R) (area' : List ℕ) (r : OutcomeOf Panel) → Takes f x area t.after t.answer t.len area' → r.after ≡ panel t.after → r.answer ≡ t.answer → r.len ≡ t.len → Acts (turn_with panel (taken (length area) f x)) area r area'
acts panel f x area t area' r k e a l = record {
  after_is = e ∙ ap panel k.record_after;
  answer_is = a ∙ k.answer_given;
  sends = subst (λ (n : ℕ). Sent (taken (length area) f x).reply n area area') (sym l) k.sends;
}

pub returns-in-Rs232c : goal.returns-in-Rs232c
unfolding turn
returns-in-Rs232c c =
    let t = c.take_frame-t in
    let o = c.on_panel in
    let e : o.result.after ≡ with_w c.args.p t.result.after = search rules in
    rw c.in-Rs232c.is (acts (with_w c.args.p) _ c.args.p.w c.args.area.now t.result _ o.result t.ensures e o.ensures.answer o.ensures.len)

pub returns-in-Kjw : goal.returns-in-Kjw
unfolding turn
returns-in-Kjw c =
    let t = c.take_frame-t-in-Kjw in
    let o = c.on_panel-in-Kjw in
    let e : o.result.after ≡ with_k c.args.p t.result.after = search rules in
    rw c.in-Kjw.is (acts (with_k c.args.p) _ c.args.p.k c.args.area.now t.result _ o.result t.ensures e o.ensures.answer o.ensures.len)

pub returns-in-Tcp : goal.returns-in-Tcp
unfolding turn
returns-in-Tcp c =
    let t = c.take_packet-t in
    let o = c.on_panel-in-Tcp in
    let e : o.result.after ≡ with_w c.args.p t.result.after = search rules in
    rw c.in-Tcp.is (acts (with_w c.args.p) _ c.args.p.w c.args.area.now t.result _ o.result t.ensures e o.ensures.answer o.ensures.len)
