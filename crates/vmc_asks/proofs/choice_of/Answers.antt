-- `choice_of` goes by what was found; no setting has more than three words, so the place fits a byte.
use mathlib.Core.Path.{sym, subst, ◌∙◌}
use Prim.Native.Nat.{◌<◌}
use native.Mathlib.Omega.{arith}
use Rattle.setting_words.proofs.Choices.{chosen_small, Small}
use Rattle.vmc_asks.proofs.choice_of.Goals as goal

pub overflow_cast-result : goal.overflow_cast-result
overflow_cast-result c =
    let h : c.in_ok-v.v < 3 = subst Small (sym c.chosen.ensures ∙ c.in_ok-v.was) (chosen_small c.args.k c.args.s.now) in
    omega arith
