-- Each promise at the door allows one outcome: its equations have the same right sides.
use mathlib.Core.Path.{◌≡◌, sym, ◌∙◌}
use Rattle.panels.specs.Records.{zero_panel}
use Rattle.panels.specs.declared.Panel.{Panel}

pub zero_panel_one : (r r' : Panel) → r ≡ zero_panel → r' ≡ zero_panel → r ≡ r'
zero_panel_one r r' p q = p ∙ sym q
