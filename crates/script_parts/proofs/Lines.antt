-- The connectors from a place on: the one at that place, and those behind it. A bias is what its bits say.
use mathlib.Core.Path.{◌≡◌}
use mathlib.Core.Bool.{cond}
use mathlib.Core.List.{List, [], ◌++◌}
use Prim.Native.Nat.{ℕ, ◌+◌, ◌<◌, ◌≤◌}
use lib.Dec.{eqb}
use lib.ListN.{length, get_or, drop}
use Rattle.laws.specs.Bytes.{ascii}
use Rattle.laws.proofs.Lists.{from, behind}
use Rattle.script_text.specs.Texts.{number_text}
use Rattle.script_parts.specs.Parts.{on_text}

pub on_from : (cs fs : List ℕ) (i : ℕ) → i < length cs → i < length fs → on_text (drop i cs) (drop i fs) ≡ cond (eqb (get_or fs i 0) 0) [] (number_text (ascii " ") (get_or cs i 0)) ++ on_text (drop (i + 1) cs) (drop (i + 1) fs)
unfolding on_text
on_from cs fs i h k = rw (from cs i 0 h, from fs i 0 k)

pub on_behind : (cs fs : List ℕ) (i : ℕ) → length cs ≤ i → on_text (drop i cs) (drop i fs) ≡ []
unfolding on_text
on_behind cs fs i h = rw (behind cs i h)
