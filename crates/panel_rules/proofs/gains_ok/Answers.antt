-- `gains_ok` folds one flag over the three numbers (`Fold`).
use mathlib.Core.Path.{◌≡◌, ◌∙◌}
use mathlib.Core.Bool.{Bool, true, ◌&&◌}
use native.Mathlib.Omega.{arith}
use Rattle.std.proofs.lemmas.Grind.{common_steps}
use Rattle.std.specs.List.{fold}
use Rattle.panels.specs.Valid.{ok_gain}
use Rattle.panel_rules.proofs.Fold.{fold_every}
use Rattle.panel_rules.proofs.gains_ok.Goals as goal

pub returns : goal.returns
unfolding ok_gain
returns c =
    let folded : c.fold.result ≡ fold (λ (ok : Bool) x. ok && ok_gain x) true c.args.g = grind (arith, common_steps) in
    folded ∙ fold_every ok_gain c.args.g
