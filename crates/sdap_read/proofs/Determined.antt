-- Each promise at the door allows one outcome: its equations have the same right sides.
use mathlib.Core.Path.{◌≡◌, sym, ◌∙◌}
use mathlib.Core.List.{List}
use Prim.Native.Nat.{ℕ}
use Rattle.terms.specs.declared.Answer.{Answer}
use Rattle.sdap.specs.declared.Read.{Read}
use Rattle.sdap.specs.Rules.{read_answer, read_of}

pub read_answer_one : (s : List ℕ) (r r' : Answer) → r ≡ read_answer s → r' ≡ read_answer s → r ≡ r'
read_answer_one s r r' p q = p ∙ sym q

pub read_advert_one : (s : List ℕ) (r r' : Read) → r ≡ read_of s → r' ≡ read_of s → r ≡ r'
read_advert_one s r r' p q = p ∙ sym q
