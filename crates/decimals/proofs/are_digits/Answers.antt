-- `are_digits` asks every byte.
use Rattle.std.proofs.Common.{rules, ◌∙◌}
use Rattle.std.proofs.lemmas.Iterator.{YieldsList-from_slice}
use Rattle.std.proofs.lemmas.Iterator.Search.{all_from_yields_List}
use Rattle.decimals.specs.Decimals.{is_digit}
use Rattle.decimals.proofs.Decimals.{every_digit}
use Rattle.decimals.proofs.are_digits.Goals as goal

pub returns : goal.returns
unfolding is_digit
returns c = all_from_yields_List is_digit _ _ _ c.all.ensures.ran (YieldsList-from_slice c.args.p.now cc) (λ x b q k. search rules) ∙ every_digit c.args.p.now
