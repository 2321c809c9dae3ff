-- Bytes that were sent leave one length and one area: both are equations. What is bytes is judged byte by byte.
use Prim.Native.Nat.{ℕ, zero, suc}
use mathlib.Core.Path.{◌≡◌, sym, ◌∙◌}
use mathlib.Core.Bool.{true}
use mathlib.Core.List.{List, [], ◌∷◌}
use lib.Dec.{ltb, lit<}
use borrow.Author.Tests.{ltb-true}
use Rattle.laws.specs.Bytes.{Bytes, Sent}
use Rattle.laws.specs.Lists.{every}
use Rattle.laws.proofs.Conditions.{and_first, and_second}

pub sent_one : (b : List ℕ) (r r' : ℕ) (area x x' : List ℕ) → Sent b r area x → Sent b r' area x' → (r ≡ r') × (x ≡ x')
sent_one b r r' area x x' p q = (p.length_is ∙ sym q.length_is, p.area_is ∙ sym q.area_is)

-- every list of numbers under 256 is bytes
pub bytes_are : (l : List ℕ) → every (λ (x : ℕ). ltb x 256) l ≡ true → Bytes l
bytes_are [] e i = lit< tt
bytes_are (x ∷ l) e zero = ltb-true x 256 (and_first (ltb x 256) (every (λ (y : ℕ). ltb y 256) l) e)
bytes_are (x ∷ l) e (suc i) = bytes_are l (and_second (ltb x 256) (every (λ (y : ℕ). ltb y 256) l) e) i
