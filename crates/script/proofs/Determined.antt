-- The promise allows one outcome: what is held is the line's, and its text is put in one way.
use Prim.Native.Nat.{ℕ}
use mathlib.Core.Path.{◌≡◌, sym, ap, ◌∙◌}
use mathlib.Core.List.{List}
use Rattle.script_text.proofs.Puts.{puts_one}
use Rattle.script.specs.Answers.{Leaves, answered}
use Rattle.script.specs.declared.Held.{Held}
use Rattle.script.specs.Answers.{Left}

-- two outcomes agree: what is held, length of the text, and every lent byte
pub record Agree (r r' : Left) (x x' : List ℕ) : Type 0 where
  pub after_same : r.after ≡ r'.after
  pub length_same : r.len ≡ r'.len
  pub area_same : x ≡ x'

pub answer_line_one : (s : Held) (line area : List ℕ) (r r' : Left) (x x' : List ℕ) → Leaves (answered s line) r area x → Leaves (answered s line) r' area x' → Agree r r' x x'
answer_line_one s line area r r' x x' p q = record {
  after_same = p.held_is ∙ sym q.held_is;
  length_same = (puts_one p.text_is q.text_is).1;
  area_same = (puts_one p.text_is q.text_is).0;
}

-- agreeing is being the same: the result, and the lent bytes

pub agree_is : (r r' : Left) (x x' : List ℕ) → Agree r r' x x' → (r ≡ r') × (x ≡ x')
agree_is r r' x x' a = (ap (λ (s : Held). record { after = s; len = r.len }) a.after_same ∙ ap (λ (n : ℕ). record { after = r'.after; len = n }) a.length_same, a.area_same)
