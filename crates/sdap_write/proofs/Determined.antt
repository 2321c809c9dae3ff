-- Each promise at the door allows one outcome: its equations have the same right sides.
use mathlib.Core.Path.{◌≡◌, sym, ◌∙◌}
use mathlib.Core.List.{List}
use Prim.Native.Nat.{ℕ}
use Rattle.terms.specs.declared.Answer.{Answer}
use Rattle.sdap.specs.declared.Advert.{Advert}
use Rattle.sdap.specs.Rules.{Written}

pub write_advert_one : (a : Advert) (area : List ℕ) (r r' : Answer) (x x' : List ℕ) → Written a area r x → Written a area r' x' → (r ≡ r') × (x ≡ x')
write_advert_one a area r r' x x' p q = (p.answer ∙ sym q.answer, p.area_after_holds ∙ sym q.area_after_holds)
