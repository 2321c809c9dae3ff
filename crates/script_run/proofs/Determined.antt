-- Each promise allows one outcome: how far a piece was taken is one number, and box, text and store are equations about it.
use Prim.Native.Nat.{ℕ}
use mathlib.Core.Path.{◌≡◌, sym, ap, ◌∙◌}
use mathlib.Core.List.{List}
use lib.ListN.{length, take}
use Rattle.laws.specs.Bytes.{sent}
use Rattle.script.specs.Answers.{at_start}
use Rattle.script.specs.declared.Held.{Held}
use Rattle.script_run.specs.declared.Progress.{Progress}
use Rattle.script_run.specs.Pieces.{SoFar, at_call, further, Store, stored, Runs}

pub start_one : (r r' : Held) → r ≡ at_start → r' ≡ at_start → r ≡ r'
start_one r r' p q = p ∙ sym q

-- two outcomes agree: box, what is kept, where the piece goes on, length of the text, store and area
pub record Agree (r r' : Progress) (x x' y y' : List ℕ) : Type 0 where
  pub held_same : r.held ≡ r'.held
  pub kept_same : r.kept ≡ r'.kept
  pub next_same : r.next ≡ r'.next
  pub length_same : r.len ≡ r'.len
  pub store_same : x ≡ x'
  pub area_same : y ≡ y'

pub run_piece_one : (b : Held) (store : List ℕ) (kept : ℕ) (piece area : List ℕ) (r r' : Progress) (x x' y y' : List ℕ)
    → Runs b store kept piece area r x y → Runs b store kept piece area r' x' y' → Agree r r' x x' y y'
run_piece_one b store kept piece area r r' x x' y y' p q =
    let next = p.next_is ∙ sym q.next_is in
    let taken : take r.next piece ≡ take r'.next piece = ap (λ (n : ℕ). take n piece) next in
    let so : further (at_call b store kept) (take r.next piece) ≡ further (at_call b store kept) (take r'.next piece) = ap (further (at_call b store kept)) taken in
    let k = p.store_is ∙ ap (stored (record { bytes = store; kept = length (take kept store) })) taken ∙ sym q.store_is in
    record {
      held_same = p.held_is ∙ ap (λ (s : SoFar). s.held) so ∙ sym q.held_is;
      kept_same = ap (λ (s : Store). s.kept) k;
      next_same = next;
      length_same = p.text_is.length_is ∙ ap (λ (s : SoFar). length s.text) so ∙ sym q.text_is.length_is;
      store_same = ap (λ (s : Store). s.bytes) k;
      area_same = p.text_is.area_is ∙ ap (λ (s : SoFar). sent s.text area) so ∙ sym q.text_is.area_is;
    }

-- agreeing is being the same: the result, and the lent bytes of store and area

pub agree_is : (r r' : Progress) (x x' y y' : List ℕ) → Agree r r' x x' y y' → (r ≡ r') × (x ≡ x') × (y ≡ y')
agree_is r r' x x' y y' a = (
  ap (λ (s : Held). record { held = s; kept = r.kept; next = r.next; len = r.len }) a.held_same
      ∙ ap (λ (n : ℕ). record { held = r'.held; kept = n; next = r.next; len = r.len }) a.kept_same
      ∙ ap (λ (n : ℕ). record { held = r'.held; kept = r'.kept; next = n; len = r.len }) a.next_same
      ∙ ap (λ (n : ℕ). record { held = r'.held; kept = r'.kept; next = r'.next; len = n }) a.length_same,
  a.store_same,
  a.area_same,
)
