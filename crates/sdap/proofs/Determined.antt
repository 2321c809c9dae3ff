-- Each promise at the door allows one outcome: its equations have the same right sides.
use mathlib.Core.Path.{◌≡◌, sym, ◌∙◌}
use mathlib.Core.List.{List}
use Prim.Native.Nat.{ℕ}
use Rattle.sdap.specs.Rules.{text_length, verdict, write_answer}
use Rattle.sdap.specs.declared.Advert.{Advert}
use Rattle.terms.specs.declared.Answer.{Answer}

pub text_length_one : (t : List ℕ) (r r' : ℕ) → r ≡ text_length t → r' ≡ text_length t → r ≡ r'
text_length_one t r r' p q = p ∙ sym q

pub verdict_one : (a : Advert) (r r' : Answer) → r ≡ verdict a → r' ≡ verdict a → r ≡ r'
verdict_one a r r' p q = p ∙ sym q

pub write_answer_one : (room : ℕ) (a : Advert) (r r' : Answer) → r ≡ write_answer room a → r' ≡ write_answer room a → r ≡ r'
write_answer_one room a r r' p q = p ∙ sym q
