-- Each promise at the door allows one outcome: its equation has one right side.
use Rattle.std.proofs.Common.{◌≡◌, ℕ, ◌%◌, Bool, List, sym, ◌∙◌}
use Rattle.sums.specs.Sums.{sum_of, sums_to_zero}

pub sums_to_zero_one : (area : List ℕ) (r r' : Bool) → r ≡ sums_to_zero area → r' ≡ sums_to_zero area → r ≡ r'
sums_to_zero_one area r r' p q = p ∙ sym q

pub sum_of_one : (area : List ℕ) (r r' : ℕ) → r ≡ sum_of area % 256 → r' ≡ sum_of area % 256 → r ≡ r'
sum_of_one area r r' p q = p ∙ sym q
