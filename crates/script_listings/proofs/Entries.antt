-- The entries from a place on: the one at that place, and those behind it.
use Prim.Native.Nat.{ℕ, ◌+◌, ◌<◌, ◌≤◌}
use mathlib.Core.Path.{◌≡◌}
use mathlib.Core.List.{List, [], ◌++◌}
use native.Mathlib.Omega.{arith}
use lib.ListN.{length, get_or, take, drop, length-take}
use lib.Seq.{get_or-take}
use Rattle.laws.proofs.Lists.{from, behind}
use Rattle.script_listings.specs.Listings.{entry_text, entries_text}

module _ (n : ℕ) (ss ls : List ℕ) where
  -- those of the first n that stand from i on
  abbrev pub entries_from : ℕ → List ℕ
  entries_from i = entries_text (drop i (take n ss)) (drop i (take n ls))

  pub entries_from_lem : (i : ℕ) → i < n → n ≤ length ss → n ≤ length ls → entries_from i ≡ entry_text (get_or ss i 0) (get_or ls i 0) ++ entries_from (i + 1)
  unfolding entries_text
  entries_from_lem i h k j =
      rw (from (take n ss) i 0 (simp length-take (omega arith)), from (take n ls) i 0 (simp length-take (omega arith)), get_or-take n ss i 0 h, get_or-take n ls i 0 h)

  pub entries_behind : (i : ℕ) → n ≤ i → entries_from i ≡ []
  unfolding entries_text
  entries_behind i h = rw (behind (take n ss) i (simp length-take (omega arith)))
