-- The promise allows one outcome: it is the advert writer's own.
use mathlib.Core.Path.{◌≡◌}
use mathlib.Core.List.{List}
use Prim.Native.Nat.{ℕ}
use Rattle.terms.specs.declared.Answer.{Answer}
use Rattle.sdap.specs.Rules.{Written}
use Rattle.sdap_write.proofs.Determined.{write_advert_one}
use Rattle.script_write.specs.Wanted.{wanted}

pub write_fields_one : (line area : List ℕ) (r r' : Answer) (x x' : List ℕ) → Written (wanted line) area r x → Written (wanted line) area r' x' → (r ≡ r') × (x ≡ x')
write_fields_one line area = write_advert_one (wanted line) area
