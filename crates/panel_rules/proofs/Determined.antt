-- The promise at the door allows one outcome: its equations have the same right sides.
use mathlib.Core.Path.{◌≡◌, sym, ◌∙◌}
use mathlib.Core.Bool.{Bool}
use Rattle.panels.specs.Valid.{ok_panel}
use Rattle.panels.specs.declared.Panel.{Panel}

pub panel_ok_one : (p : Panel) (r r' : Bool) → r ≡ ok_panel p → r' ≡ ok_panel p → r ≡ r'
panel_ok_one p r r' e e' = e ∙ sym e'
