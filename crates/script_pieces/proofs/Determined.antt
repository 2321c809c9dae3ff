-- The promise allows one outcome: the store is put in one way, and the rest are equations.
use Prim.Native.Nat.{ℕ}
use mathlib.Core.Path.{◌≡◌, sym, ap, ◌∙◌}
use mathlib.Core.Bool.{Bool}
use mathlib.Core.List.{List}
use Rattle.script_text.proofs.Puts.{puts_one}
use Rattle.script_pieces.specs.Parts.{Takes}
use Rattle.script_pieces.specs.declared.Part.{Part}

-- two outcomes agree: what is kept, where the next line starts, whether this one is whole, and the store
pub record Agree (r r' : Part) (x x' : List ℕ) : Type 0 where
  pub kept_same : r.kept ≡ r'.kept
  pub next_same : r.next ≡ r'.next
  pub ended_same : r.ended ≡ r'.ended
  pub store_same : x ≡ x'

pub take_part_one : (piece : List ℕ) (from kept : ℕ) (store : List ℕ) (r r' : Part) (x x' : List ℕ) → Takes piece from kept store r x → Takes piece from kept store r' x' → Agree r r' x x'
take_part_one piece from kept store r r' x x' p q = record {
  kept_same = (puts_one p.kept_is q.kept_is).1;
  next_same = p.next_is ∙ sym q.next_is;
  ended_same = p.ended_is ∙ sym q.ended_is;
  store_same = (puts_one p.kept_is q.kept_is).0;
}

-- agreeing is being the same: the result, and the lent bytes of the store
pub agree_is : (r r' : Part) (x x' : List ℕ) → Agree r r' x x' → (r ≡ r') × (x ≡ x')
agree_is r r' x x' a = (
  ap (λ (n : ℕ). record { kept = n; next = r.next; ended = r.ended }) a.kept_same
      ∙ ap (λ (n : ℕ). record { kept = r'.kept; next = n; ended = r.ended }) a.next_same
      ∙ ap (λ (b : Bool). record { kept = r'.kept; next = r'.next; ended = b }) a.ended_same,
  a.store_same,
)
