-- Each promise at the door allows one outcome, the area afterwards and the place behind the text: both are the one promise `Puts`.
use mathlib.Core.Path.{◌≡◌}
use mathlib.Core.List.{List}
use Prim.Native.Nat.{ℕ}
use Rattle.sdap.specs.declared.Advert.{Advert}
use Rattle.script_text.specs.Puts.{Puts}
use Rattle.script_text.proofs.Puts.{puts_one}
use Rattle.script_fields.specs.Fields.{advert_text}

pub put_advert_one : (x : Advert) (d : List ℕ) (n : ℕ) (e e' : List ℕ) (r r' : ℕ) → Puts (advert_text x) d n e r → Puts (advert_text x) d n e' r' → (e ≡ e') × (r ≡ r')
put_advert_one x d n e e' r r' a b = puts_one a b
