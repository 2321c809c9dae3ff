use Prim.Native.Nat.{ℕ, ◌<◌}
use mathlib.Core.Bool.{true, false}
use mathlib.Core.Path.{◌≡◌, refl, sym, ap, ◌∙◌}
use mathlib.Core.List.{List}
use lib.ListN.{length, get_or}
use native.Mathlib.Omega.{arith}
use native.Mathlib.Numerals.{add-one}
use Rattle.laws.specs.Runs.{first_each}
use Rattle.laws.proofs.Runs.{first_next, first_more, first_skip}
use Rattle.panels.specs.Records.{past_end}
use Rattle.panels.specs.declared.Panel.{Panel}
use Rattle.vmc_asks.specs.declared.Order.{Order}
use Rattle.vmc.specs.Orders.{carried}
use Rattle.steps.specs.Messages.{name_of}
use Rattle.steps.specs.Addressing.{is_called}
use Rattle.steps.specs.Step.{with_w}
use Rattle.ways_in.specs.Turns.{heeded}
use Rattle.box_rules.specs.Pairs.{ids_of}
use Rattle.box_rules.specs.declared.Ids.{Ids}
use Rattle.addresses.specs.Doors.{id_name}
use Rattle.ways_in.proofs.obey_all.Goals as goal
use Rattle.ways_in.proofs.obey_all.Goals.{then-is_called, else-is_called}

-- a panel that is called, and one that is not
called : (m : List ℕ) (o : Order) (p : Panel) → is_called m (name_of p) ≡ true → with_w p (carried o p.w) ≡ heeded m o p
unfolding heeded
called m o p e = sym (rw e)

spared : (m : List ℕ) (o : Order) (p : Panel) → is_called m (name_of p) ≡ false → heeded m o p ≡ p
unfolding heeded
spared m o p e = rw e

-- a panel's name is what it is called by
same_name : (p : Panel) → id_name (ids_of p) ≡ name_of p
unfolding id_name name_of
same_name p = refl

pub loop-i-preserved : goal.loop-i-preserved
loop-i-preserved c =
    let a = c.args in
    let f = heeded a.m.now a.o in
    let qs = c.loop-i.qs in
    let i = c.loop-i.i in
    let p = get_or qs i past_end in
    let so_far : qs ≡ first_each f i a.ps = c.loop-i.invariant.1 in
    let asked : c.is_called.result ≡ is_called a.m.now (name_of p) =
    c.is_called.ensures ∙ ap (λ (x : Ids). is_called a.m.now (id_name x)) c.called_by.ensures ∙ ap (is_called a.m.now) (same_name p) in
    let same : p ≡ get_or a.ps i past_end = ap (λ (xs : List Panel). get_or xs i past_end) so_far ∙ first_next f i a.ps past_end in
    let inside : i < length a.ps = omega (arith, c.loop-i.invariant.0) in (
      c.loop-i.invariant.0,
      elim c.if-is_called.branch [
        | then-is_called w ↦
            let turn : w.obeyed.result ≡ f (get_or a.ps i past_end) =
            w.obeyed.ensures ∙ called a.m.now a.o p (sym asked ∙ w.if-is_called.true) ∙ ap f same in
            w.qs-is ∙ rw (turn, so_far, add-one) (first_more f i a.ps past_end inside)
        | else-is_called w ↦
            let stays = ap f (sym same) ∙ spared a.m.now a.o p (sym asked ∙ w.if-is_called.false) ∙ same in
            w.qs-is ∙ so_far ∙ rw add-one (first_skip f i a.ps past_end inside stays)
      ],
    )
