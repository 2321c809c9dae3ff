-- `shifts_ok` asks both shifts in turn, as `every` does.
use Rattle.std.proofs.Common.{rules, ◌∙◌}
use Rattle.std.proofs.lemmas.Iterator.{YieldsList-from_slice}
use Rattle.std.proofs.lemmas.Iterator.Search.{all_from_yields_List}
use Rattle.laws.proofs.Library.{every_all}
use Rattle.panels.specs.Valid.{ok_shift}
use Rattle.panel_rules.proofs.shifts_ok.Goals as goal

pub returns : goal.returns
returns c =
    all_from_yields_List ok_shift _ _ _ c.all.ensures.ran (YieldsList-from_slice c.args.z cc) (λ x b q k. search rules)
    ∙ every_all ok_shift c.args.z
