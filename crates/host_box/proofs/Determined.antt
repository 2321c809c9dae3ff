-- Each promise at the door allows one outcome: its equations have the same right sides.
use mathlib.Core.Path.{◌≡◌, sym, ◌∙◌}
use mathlib.Core.List.{List}
use Prim.Native.Nat.{ℕ}
use Rattle.panels.specs.declared.Panel.{Panel}
use Rattle.panels.specs.declared.DisplayBox.{DisplayBox}
use Rattle.configure.specs.Configure.{configured}
use Rattle.host_box.specs.declared.Made.{Made}
use Rattle.host_box.specs.declared.Outcome.{Outcome}
use Rattle.host_box.specs.Called.{Called, made_of, numbers_of, panel_behind}

pub make_box_one : (c : List ℕ) (r r' : Made) → r ≡ made_of (configured c) → r' ≡ made_of (configured c) → r ≡ r'
make_box_one c r r' p q = p ∙ sym q

pub take_message_one : (c : Called) (r r' : Outcome) (x x' : List ℕ) → (r ≡ numbers_of c) × (x ≡ c.area) → (r' ≡ numbers_of c) × (x' ≡ c.area) → (r ≡ r') × (x ≡ x')
take_message_one c r r' x x' p q = (p.0 ∙ sym q.0, p.1 ∙ sym q.1)

pub panel_behind_one : (b : DisplayBox) (link : ℕ) (r r' : Panel) → r ≡ panel_behind b link → r' ≡ panel_behind b link → r ≡ r'
panel_behind_one b link r r' p q = p ∙ sym q
