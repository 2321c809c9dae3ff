-- The promise allows one outcome: box and receiver are the line's, and its text is put in one way.
use Prim.Native.Nat.{ℕ}
use mathlib.Core.Path.{◌≡◌, sym, ap, ◌∙◌}
use mathlib.Core.List.{List}
use Rattle.panels.specs.declared.DisplayBox.{DisplayBox}
use Rattle.receiver.specs.declared.Receiver.{Receiver}
use Rattle.script_text.proofs.Puts.{puts_one}
use Rattle.script_receivers.specs.Receivers.{LinkEffect, Links, pieced_by}
use Rattle.script_receivers.specs.declared.Linked.{Linked}

-- two outcomes agree: box, receiver, length of the text, and every lent byte
pub record Agree (r r' : Linked) (x x' : List ℕ) : Type 0 where
  pub after_same : r.after ≡ r'.after
  pub receiver_same : r.receiver ≡ r'.receiver
  pub length_same : r.len ≡ r'.len
  pub area_same : x ≡ x'

pub links_one : (o : LinkEffect) (area : List ℕ) (r r' : Linked) (x x' : List ℕ) → Links o r area x → Links o r' area x' → Agree r r' x x'
links_one o area r r' x x' p q = record {
  after_same = p.box_is ∙ sym q.box_is;
  receiver_same = p.receiver_is ∙ sym q.receiver_is;
  length_same = (puts_one p.text_is q.text_is).1;
  area_same = (puts_one p.text_is q.text_is).0;
}

pub answer_piece_one : (b : DisplayBox) (r : Receiver) (line area : List ℕ) (a a' : Linked) (x x' : List ℕ) → Links (pieced_by b r line) a area x → Links (pieced_by b r line) a' area x' → Agree a a' x x'
answer_piece_one b r line = links_one (pieced_by b r line)

-- agreeing is being the same: the result, and the lent bytes
pub agree_is : (r r' : Linked) (x x' : List ℕ) → Agree r r' x x' → (r ≡ r') × (x ≡ x')
agree_is r r' x x' a = (
  ap (λ (b : DisplayBox). record { after = b; receiver = r.receiver; len = r.len }) a.after_same
      ∙ ap (λ (s : Receiver). record { after = r'.after; receiver = s; len = r.len }) a.receiver_same
      ∙ ap (λ (n : ℕ). record { after = r'.after; receiver = r'.receiver; len = n }) a.length_same,
  a.area_same,
)
