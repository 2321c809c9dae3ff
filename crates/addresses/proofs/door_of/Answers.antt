-- `door_of` asks the room, the family on the link, and who is addressed, in turn.
use Rattle.std.proofs.Common.{◌≡◌, ℕ, zero, suc, ◌+◌, ◌-◌, Bool, true, false, cond, List, map, refl, sym, ap, ◌∙◌, rules, arith, Option, Some, None}
use borrow.Author.Tests.{lt-ltb, le-ltb, ne_eqb}
use Rattle.std.specs.Option.{ok_or}
use Rattle.steps.specs.Messages.{Name, on_link}
use Rattle.steps.specs.Step.{to_nobody}
use Rattle.addresses.specs.Doors.{id_name, numbered, is_of, target_by, comes_to, opened}
use Rattle.addresses.specs.declared.Line.{Line}
use Rattle.addresses.proofs.Names.{nobody_of}
use Rattle.addresses.proofs.door_of.Goals as goal

abbrev On : Line → List Name → ℕ → Option ℕ → Type 0
On line ns l r = numbered r ≡ cond (is_of line (on_link ns l)) l 0

-- a panel of the family is on the link, or none is
nobody_on : (line : Line) (ns : List Name) (l : ℕ) → On line ns l None → is_of line (on_link ns l) ≡ false
nobody_on line ns zero e = nobody_of line
nobody_on line ns (suc i) e = go (is_of line (on_link ns (suc i))) e
  where
    go : (b : Bool) → 0 ≡ cond b (suc i) 0 → b ≡ false
    go true f = absurd (omega arith)
    go false f = refl

somebody_on : (line : Line) (ns : List Name) (l i : ℕ) → On line ns l (Some i) → (is_of line (on_link ns l) ≡ true) × (suc i ≡ l)
somebody_on line ns l i e = go (is_of line (on_link ns l)) e
  where
    go : (b : Bool) → suc i ≡ cond b l 0 → (b ≡ true) × (suc i ≡ l)
    go true f = (refl, f)
    go false f = absurd (omega arith)

comes : (r : Option ℕ) (n : ℕ) (m : List ℕ) → numbered r ≡ n → ok_or r (to_nobody m) ≡ comes_to n m
comes None n m e = rw (← e) refl
comes (Some i) n m e =
    let z : suc i ≡ 0 → ⊥ = λ f. omega arith in
    let one : suc i - 1 ≡ i = omega arith in
    rw (← e) (sym (rw (ne_eqb (suc i) 0 z, one)))

pub returns-then-room-lt512 : goal.returns-then-room-lt512
unfolding opened
returns-then-room-lt512 c = (sym (rw (lt-ltb _ _ c.if-room-lt512.true)), search rules)

pub returns-in-None : goal.returns-in-None
unfolding opened
returns-in-None c =
    let a = c.args in
    (sym (rw (le-ltb _ _ c.if-room-lt512.false, nobody_on a.line (map id_name a.ids) a.link c.in-None.ensures)), search rules)

pub returns-in-Some : goal.returns-in-Some
unfolding opened
returns-in-Some c =
    let a = c.args in
    let ns = map id_name a.ids in
    let on = somebody_on a.line ns a.link c.in-Some.own c.in-Some.ensures in
    let link : c.in-Some.own + 1 ≡ a.link = omega (arith, on.1) in
    let asked = c.target_by.ensures ∙ ap (λ (n : ℕ). target_by a.line ns n a.m.now) link in
    let given = c.ok_or.ensures.value ∙ ap (ok_or c.target_by.result) c.to_nobody.ensures in
    (given ∙ comes c.target_by.result (target_by a.line ns a.link a.m.now) a.m.now asked ∙ sym (rw (le-ltb _ _ c.if-room-lt512.false, on.0)), search rules)
