-- `are_hex_digits` asks every byte.
use mathlib.Core.Path.{◌∙◌}
use Rattle.std.proofs.Common.{rules}
use Rattle.std.proofs.lemmas.Iterator.{YieldsList-from_slice}
use Rattle.std.proofs.lemmas.Iterator.Search.{all_from_yields_List}
use Rattle.laws.proofs.Library.{every_all}
use Rattle.script_hex.specs.Hex.{is_hex_digit}
use Rattle.script_hex.proofs.are_hex_digits.Goals as goal

pub returns : goal.returns
returns c = all_from_yields_List is_hex_digit _ _ _ c.all.ensures.ran (YieldsList-from_slice c.args.w.now cc) (λ x b q k. search rules) ∙ every_all is_hex_digit c.args.w.now
