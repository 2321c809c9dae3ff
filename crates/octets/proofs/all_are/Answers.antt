-- `all_are` asks every byte.
use Rattle.std.proofs.Common.{rules, ◌∙◌, eqb}
use Rattle.std.proofs.lemmas.Iterator.{YieldsList-from_slice}
use Rattle.std.proofs.lemmas.Iterator.Search.{all_from_yields_List}
use Rattle.laws.proofs.Library.{every_all}
use Rattle.octets.proofs.all_are.Goals as goal

pub returns : goal.returns
returns c =
    all_from_yields_List (eqb c.args.b) _ _ _ c.all.ensures.ran (YieldsList-from_slice c.args.s.now cc) (λ x b q k. search rules)
    ∙ every_all (eqb c.args.b) c.args.s.now
