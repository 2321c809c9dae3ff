-- Each promise at the door allows one outcome, the area afterwards and the place behind the text: both are the one promise `Puts`.
use mathlib.Core.Path.{◌≡◌}
use mathlib.Core.List.{List}
use Prim.Native.Nat.{ℕ}
use Rattle.panels.specs.declared.Panel.{Panel}
use Rattle.script_text.specs.Puts.{Puts}
use Rattle.script_text.proofs.Puts.{puts_one}
use Rattle.script_show.specs.Shown.{panel_text}

pub put_panel_one : (p : Panel) (d : List ℕ) (n : ℕ) (e e' : List ℕ) (r r' : ℕ) → Puts (panel_text p) d n e r → Puts (panel_text p) d n e' r' → (e ≡ e') × (r ≡ r')
put_panel_one p d n e e' r r' a b = puts_one a b
