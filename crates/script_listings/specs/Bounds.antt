-- For the contracts of the code alone: no number of a list is above a bound, and no more is listed than the list has room for.
use Rattle.std.specs.Prelude.{ℕ, ◌≤◌, ◌<◌, get_or}
use Rattle.reader.specs.declared.Listing.{Listing}

pub record Within (most : ℕ) (l : Listing) : Type 0 where
  pub few : l.count ≤ 64
  pub entries : (i : ℕ) → i < l.count → (get_or l.starts i 0 ≤ most) × (get_or l.lengths i 0 ≤ most)
  pub end : l.end ≤ most
