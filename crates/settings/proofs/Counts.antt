-- The names of the settings are as many as the rows of both tables, and the flip's place is the last, behind the first table: by computing.
use mathlib.Core.Path.{◌≡◌, refl}
use lib.ListN.{length}
use Rattle.settings.specs.Table.{table, flip_place, place_count, all_named, setting_count, mosts}

pub named_counted : length all_named ≡ setting_count
named_counted = refl

pub flip_behind : length table ≡ flip_place
flip_behind = refl

pub places_counted : length mosts ≡ place_count
places_counted = refl
