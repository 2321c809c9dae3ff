-- `biases_ok` folds one flag over the three numbers (`Fold`).
use mathlib.Core.Path.{◌≡◌, ◌∙◌}
use mathlib.Core.Bool.{Bool, true, ◌&&◌}
use native.Mathlib.Omega.{arith}
use Rattle.std.proofs.lemmas.Grind.{common_steps}
use Rattle.std.specs.List.{fold}
use Rattle.panels.specs.Valid.{ok_bias}
use Rattle.panel_rules.proofs.Fold.{fold_every}
use Rattle.panel_rules.proofs.biases_ok.Goals as goal

pub returns : goal.returns
returns c =
    let folded : c.fold.result ≡ fold (λ (ok : Bool) x. ok && ok_bias x) true c.args.z = grind (arith, common_steps) in
    folded ∙ fold_every ok_bias c.args.z
