-- For the contracts of the code alone, no sentence of the document: the pairs of eight places as numbers, laid twice, so that each is compared with those one to four places on.
use Rattle.std.specs.Prelude.{ℕ, ◌+◌, ◌<◌, ◌≡◌, Bool, true, cond, not, ◌&&◌, List, [], ◌∷◌, eqb, length, get_or, take}
use Rattle.laws.specs.Lists.{every, every_below}
use Rattle.laws.specs.Numbers.{number}
use Rattle.panels.specs.Records.{family_w}
use Rattle.panels.specs.Valid.{ok_panel}
use Rattle.box_rules.specs.Pairs.{no_ids, gathered}
use Rattle.box_rules.specs.declared.Ids.{Ids}
use Rattle.box_rules.specs.declared.Seen.{Seen}
use Rattle.panels.specs.declared.Panel.{Panel}

-- the IDs of the W panel at place k as one number, and the place's own number where there is none
abbrev pub pair_at : Ids → ℕ → ℕ
pair_at d k = cond (eqb d.family family_w) (number (d.group.0 ∷ d.unit.0 ∷ [])) k

-- the numbers of eight places, and the same again
abbrev pub Rings : List Ids → List ℕ → Type 0
Rings ids ring = (k : ℕ) → k < 8 → (get_or ring k 0 ≡ pair_at (get_or ids k no_ids) k) × (get_or ring (k + 8) 0 ≡ pair_at (get_or ids k no_ids) k)

-- what is seen of the first n panels where each is good: what they are called by, and their numbers
pub record Sees (ps : List Panel) (n : ℕ) (s : Seen) : Type 0 where
  pub good : every ok_panel (take n ps) ≡ true
  pub ids_are : s.ids ≡ gathered ps n
  pub eight : length s.ids ≡ 8
  pub rings : Rings s.ids s.ring

-- none of the eight is like the one d places on
abbrev pub apart_by : List ℕ → ℕ → Bool
apart_by ring d = every_below 8 (λ k. not (eqb (get_or ring k 0) (get_or ring (k + d) 0)))

abbrev pub all_apart : List ℕ → Bool
all_apart ring = apart_by ring 1 && apart_by ring 2 && apart_by ring 3 && apart_by ring 4
