-- Each promise allows one outcome: the box is the order's, and its text is put in one way.
use mathlib.Core.Path.{◌≡◌, sym, ap, ◌∙◌}
use mathlib.Core.List.{List}
use Prim.Native.Nat.{ℕ}
use Rattle.terms.specs.declared.Answer.{Answer}
use Rattle.panels.specs.declared.DisplayBox.{DisplayBox}
use Rattle.script_text.proofs.Puts.{puts_one}
use Rattle.script_answers.specs.Answers.{Effect, Answers, writes, answer_text, replied}
use Rattle.script_answers.specs.Endings.{Ends}
use Rattle.script_answers.specs.declared.Answered.{Answered}

-- two outcomes agree: box, length of the text, and every lent byte
pub record Agree (r r' : Answered DisplayBox) (x x' : List ℕ) : Type 0 where
  pub after_same : r.after ≡ r'.after
  pub length_same : r.len ≡ r'.len
  pub area_same : x ≡ x'

-- whatever the line or the order, a promise of its box and text
pub answers_one : (o : Effect) (area : List ℕ) (r r' : Answered DisplayBox) (x x' : List ℕ) → Answers o r area x → Answers o r' area x' → Agree r r' x x'
answers_one o area r r' x x' p q = record {
  after_same = p.box_is ∙ sym q.box_is;
  length_same = (puts_one p.text_is q.text_is).1;
  area_same = (puts_one p.text_is q.text_is).0;
}

module _ (b : DisplayBox) (area : List ℕ) (r r' : Answered DisplayBox) (x x' : List ℕ) where
  pub ended_one : (at : ℕ) → Ends b at r area x → Ends b at r' area x' → Agree r r' x x'
  ended_one at p q = record {
    after_same = p.box_is ∙ sym q.box_is;
    length_same = (puts_one p.text_is q.text_is).1;
    area_same = (puts_one p.text_is q.text_is).0;
  }

  pub say_one : (text : List ℕ) → Answers (writes b text) r area x → Answers (writes b text) r' area x' → Agree r r' x x'
  say_one text = answers_one (writes b text) area r r' x x'

  pub say_answer_one : (a : Answer) → Answers (writes b (answer_text a)) r area x → Answers (writes b (answer_text a)) r' area x' → Agree r r' x x'
  say_answer_one a = answers_one (writes b (answer_text a)) area r r' x x'

  pub say_reply_one : (a : Answer) (len : ℕ) (lent : List ℕ) → Answers (writes b (replied a len lent)) r area x → Answers (writes b (replied a len lent)) r' area x' → Agree r r' x x'
  say_reply_one a len lent = answers_one (writes b (replied a len lent)) area r r' x x'

-- agreeing is being the same: the result, and the lent bytes
pub agree_is : (r r' : Answered DisplayBox) (x x' : List ℕ) → Agree r r' x x' → (r ≡ r') × (x ≡ x')
agree_is r r' x x' a = (ap (λ (b : DisplayBox). record { after = b; len = r.len }) a.after_same ∙ ap (λ (n : ℕ). record { after = r'.after; len = n }) a.length_same, a.area_same)
