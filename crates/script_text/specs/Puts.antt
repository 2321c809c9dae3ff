-- Text put into an area from a place on.
use Rattle.std.specs.Prelude.{ℕ, ◌+◌, ◌-◌, ◌≡◌, List, length, take}
use Rattle.laws.specs.Bytes.{over}

-- the area with the text over it from a place on; what does not fit is cut off
unfoldable pub written : List ℕ → ℕ → List ℕ → List ℕ
written area at text = over area at (take (length area - at) text)

-- the place behind it
unfoldable pub behind : List ℕ → ℕ → List ℕ → ℕ
behind area at text = at + length (take (length area - at) text)

-- the promise of every function that puts text: the whole area afterwards, and the place behind the text
pub record Puts (text : List ℕ) (area : List ℕ) (at : ℕ) (area' : List ℕ) (next : ℕ) : Type 0 where
  pub area_is : area' ≡ written area at text
  pub next_is : next ≡ behind area at text
