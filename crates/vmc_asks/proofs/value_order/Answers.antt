-- `value_order` goes by the kind of name.
use mathlib.Core.Path.{sym, ap, ◌∙◌}
use borrow.Author.Tests.{lt-ltb, le-ltb}
use Rattle.vmc_asks.specs.Asks.{set_to, value_order}
use Rattle.vmc_asks.proofs.value_order.Goals as goal

pub returns-in_default : goal.returns-in_default
unfolding value_order
returns-in_default c = ap (set_to c.args.k) (sym c.in_default.is ∙ c.level_of.ensures) ∙ sym (rw (lt-ltb _ _ c.if-k-lt-LEVEL_COUNT.true))

pub returns-then-k-lt-LEVEL_COUNT : goal.returns-then-k-lt-LEVEL_COUNT
unfolding value_order
returns-then-k-lt-LEVEL_COUNT c = ap (set_to c.args.k) (sym c.in-Some.is ∙ c.level_of.ensures) ∙ sym (rw (lt-ltb _ _ c.if-k-lt-LEVEL_COUNT.true))

pub returns-in_err-choice_of : goal.returns-in_err-choice_of
unfolding value_order
returns-in_err-choice_of c =
    c.from_residual.ensures ∙ ap (set_to c.args.k) (sym c.in_err-choice_of.was ∙ c.choice_of.ensures)
    ∙ sym (rw (le-ltb _ _ c.if-k-lt-LEVEL_COUNT.false, lt-ltb _ _ c.if-k-lt-SETTING_COUNT.true))

pub returns-then-k-lt-SETTING_COUNT : goal.returns-then-k-lt-SETTING_COUNT
unfolding value_order
returns-then-k-lt-SETTING_COUNT c =
    ap (set_to c.args.k) (sym c.in_ok-choice_of.was ∙ c.choice_of.ensures) ∙ sym (rw (le-ltb _ _ c.if-k-lt-LEVEL_COUNT.false, lt-ltb _ _ c.if-k-lt-SETTING_COUNT.true))

pub returns : goal.returns
unfolding value_order
returns c = c.shift_order.ensures ∙ sym (rw (le-ltb _ _ c.if-k-lt-LEVEL_COUNT.false, le-ltb _ _ c.if-k-lt-SETTING_COUNT.false))
