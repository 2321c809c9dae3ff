-- Each promise at the door allows one outcome: its equations have the same right sides.
use mathlib.Core.Path.{◌≡◌, sym, ◌∙◌}
use mathlib.Core.Bool.{Bool}
use mathlib.Core.List.{List}
use Rattle.std.specs.Prelude.{Option}
use Rattle.panels.specs.Valid.{valid}
use Rattle.panels.specs.declared.DisplayBox.{DisplayBox}
use Rattle.panels.specs.declared.Panel.{Panel}
use Rattle.box_rules.specs.Pairs.{ids_of, judged}
use Rattle.box_rules.specs.declared.Ids.{Ids}

pub called_by_one : (p : Panel) (r r' : Ids) → r ≡ ids_of p → r' ≡ ids_of p → r ≡ r'
called_by_one p r r' a b = a ∙ sym b

pub is_valid_one : (b : DisplayBox) (r r' : Bool) → r ≡ valid b → r' ≡ valid b → r ≡ r'
is_valid_one b r r' p q = p ∙ sym q

pub judge_one : (b : DisplayBox) (r r' : Option (List Ids)) → r ≡ judged b → r' ≡ judged b → r ≡ r'
judge_one b r r' p q = p ∙ sym q
