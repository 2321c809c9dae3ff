-- For the contracts of the code alone, no sentence of the document: what a panel is called by, gathered at its place, and whether the box keeps the rules.
use Rattle.std.specs.Prelude.{ℕ, ◌-◌, cond, Option, Some, None, List, ◌++◌, map, take, replicate}
use Rattle.panels.specs.Records.{past_end}
use Rattle.panels.specs.Valid.{valid}
use Rattle.box_rules.specs.declared.Ids.{Ids}
use Rattle.panels.specs.declared.Panel.{Panel}
use Rattle.panels.specs.declared.DisplayBox.{DisplayBox}

abbrev pub ids_of : Panel → Ids
ids_of p = record { family = p.family; group = p.group; unit = p.unit }

-- a place that holds no panel
abbrev pub no_ids : Ids
no_ids = record { family = 0; group = record { 0 = 0 }; unit = record { 0 = 0 } }

-- the panel of which nothing but family and IDs is known
abbrev pub bare : Ids → Panel
bare i = record {
  family = i.family;
  group = i.group;
  unit = i.unit;
  spare = 0;
  w = past_end.w;
  k = past_end.k;
}

-- those of the first n panels, and no panel behind them
abbrev pub gathered : List Panel → ℕ → List Ids
gathered ps n = map ids_of (take n ps) ++ replicate (8 - n) no_ids

-- what the panels of a box are called by; a box that breaks the rules has none
unfoldable pub ids_in : DisplayBox → List Ids
ids_in b = cond (valid b) (gathered b.panels b.count) (replicate 8 no_ids)

-- they are given of a box that keeps the rules alone
abbrev pub judged : DisplayBox → Option (List Ids)
judged b = cond (valid b) (Some (gathered b.panels b.count)) None
