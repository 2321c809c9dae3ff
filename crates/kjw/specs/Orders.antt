-- Document 01, "KJW (003)", and document 02, §6: what an order does to a K panel's record.
use Rattle.std.specs.Prelude.{ℕ, ◌+◌, ◌-◌, cond, eqb, ltb}
use Rattle.panels.specs.Records.{most_volume}
use Rattle.panels.specs.declared.KRecord.{KRecord}
use Rattle.kjw_sets.specs.declared.Order.{Order}
use Rattle.kjw_sets.specs.declared.Order.TheVariants.{SetPower, TogglePower, SetAudioMute, ToggleAudioMute, SetPictureMute, TogglePictureMute, SetVolume, Louder, Softer, SetInput, SetScene, Pass, Ask}

-- a switch turned over
unfoldable pub turned_over : ℕ → ℕ
turned_over v = cond (eqb v 0) 1 0

-- "Volume Up and Down move by one and stop at 0 and 100"
unfoldable pub louder : ℕ → ℕ
louder v = cond (ltb v most_volume) (v + 1) v

unfoldable pub softer : ℕ → ℕ
softer v = cond (ltb 0 v) (v - 1) v

-- the panel with one setting changed
abbrev pub with_power : ℕ → KRecord → KRecord
with_power v k = record { power = v; amut = k.amut; pmut = k.pmut; volume = k.volume; scene = k.scene; kind = k.kind; port = k.port }

abbrev pub with_amut : ℕ → KRecord → KRecord
with_amut v k = record { power = k.power; amut = v; pmut = k.pmut; volume = k.volume; scene = k.scene; kind = k.kind; port = k.port }

abbrev pub with_pmut : ℕ → KRecord → KRecord
with_pmut v k = record { power = k.power; amut = k.amut; pmut = v; volume = k.volume; scene = k.scene; kind = k.kind; port = k.port }

abbrev pub with_volume : ℕ → KRecord → KRecord
with_volume v k = record { power = k.power; amut = k.amut; pmut = k.pmut; volume = v; scene = k.scene; kind = k.kind; port = k.port }

abbrev pub with_scene : ℕ → KRecord → KRecord
with_scene v k = record { power = k.power; amut = k.amut; pmut = k.pmut; volume = k.volume; scene = v; kind = k.kind; port = k.port }

abbrev pub with_input : ℕ → ℕ → KRecord → KRecord
with_input kind port k = record { power = k.power; amut = k.amut; pmut = k.pmut; volume = k.volume; scene = k.scene; kind = kind; port = port }

-- an order carried out; a pass and an enquiry change nothing
unfoldable pub carried : Order → KRecord → KRecord
carried (SetPower v) k = with_power v k
carried TogglePower k = with_power (turned_over k.power) k
carried (SetAudioMute v) k = with_amut v k
carried ToggleAudioMute k = with_amut (turned_over k.amut) k
carried (SetPictureMute v) k = with_pmut v k
carried TogglePictureMute k = with_pmut (turned_over k.pmut) k
carried (SetVolume v) k = with_volume v k
carried Louder k = with_volume (louder k.volume) k
carried Softer k = with_volume (softer k.volume) k
carried (SetInput kind port) k = with_input kind port k
carried (SetScene v) k = with_scene v k
carried Pass k = k
carried (Ask s) k = k
