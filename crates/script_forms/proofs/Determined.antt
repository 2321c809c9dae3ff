-- Each promise at the door allows one outcome, the area afterwards and the place behind the text: all are the one promise `Puts`.
use mathlib.Core.Path.{◌≡◌}
use mathlib.Core.List.{List}
use Prim.Native.Nat.{ℕ}
use Rattle.script_text.specs.Puts.{Puts}
use Rattle.script_text.proofs.Determined.{put_one}
use Rattle.script_forms.specs.Forms.{numbers_text}

pub put_numbers_one : (form vs d : List ℕ) (n : ℕ) (e e' : List ℕ) (r r' : ℕ) → Puts (numbers_text form vs) d n e r → Puts (numbers_text form vs) d n e' r' → (e ≡ e') × (r ≡ r')
put_numbers_one form vs = put_one (numbers_text form vs)
