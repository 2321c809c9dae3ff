-- A refusal leaves the record: only what is understood is carried out.
use mathlib.Core.Path.{◌≡◌, refl}
use mathlib.Core.List.{List}
use Prim.Native.Nat.{ℕ}
use Rattle.std.specs.Prelude.{Result, Ok, Err}
use Rattle.terms.specs.declared.Answer.TheVariants.{Done}
use Rattle.turns.specs.Turns.{Turn, taken}
use Rattle.turns.proofs.Turns.{either}
use Rattle.panels.specs.declared.KRecord.{KRecord}
use Rattle.kjw_asks.specs.Asks.{heard_of}
use Rattle.kjw.specs.Replies.{decided, turn_of}
use Rattle.kjw_sets.specs.declared.Order.{Order}
use Rattle.kjw_asks.specs.declared.Fault.{Fault}
use Rattle.kjw_asks.specs.declared.Fault.TheVariants.{Refused, NotUnderstood}

turn_unchanged : (h : Result Order Fault) (k : KRecord) → ((decided k h).answer ≡ Done → ⊥) → (decided k h).k ≡ k
unfolding decided
turn_unchanged (Err (Refused a)) k n = refl
turn_unchanged (Err NotUnderstood) k n = refl
turn_unchanged (Ok o) k n = absurd (n refl)

-- every answer but 0 leaves the panel as it was
pub turned_unchanged : (m : List ℕ) (k : KRecord) → ((turn_of m k).answer ≡ Done → ⊥) → (turn_of m k).after ≡ k
unfolding turn_of
turned_unchanged m k n = turn_unchanged (heard_of m) k n

pub taken_unchanged : (room : ℕ) (m : List ℕ) (k : KRecord) → ((taken room (turn_of m) k).answer ≡ Done → ⊥) → (taken room (turn_of m) k).after ≡ k
taken_unchanged room m k = either (λ (t : Turn KRecord). (t.answer ≡ Done → ⊥) → t.after ≡ k) room (turn_of m) k (λ n. refl) (turned_unchanged m k)
