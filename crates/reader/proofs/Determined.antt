-- The promise at the door allows one outcome: it is an equation.
use mathlib.Core.Path.{◌≡◌, sym, ◌∙◌}
use mathlib.Core.List.{List}
use Prim.Native.Nat.{ℕ}
use Rattle.reader.specs.declared.Listing.{Listing}
use Rattle.reader.specs.Plain.{plain}

pub read_plain_one : (b : List ℕ) (r r' : Listing) → r ≡ plain b → r' ≡ plain b → r ≡ r'
read_plain_one b r r' p q = p ∙ sym q
