-- Document 01, "RS-232C (002, 004)": the bits of 21h and 22h, and which of them are understood.
use Rattle.std.specs.Prelude.{ℕ, ◌/◌, ◌%◌, Bool, true, false, cond, ◌&&◌, eqb}
use Rattle.laws.specs.Lists.{listed}
use Rattle.panels.specs.Records.{connectors, presets}

-- "Undefined bits are ignored.": of each byte just the bits are read that are named here.

-- ---- 21h: "First: bit 0 connector, bit 1 preset white balance (house). Second: connector in bits 0 to 3, preset in bits 4 to 6."
abbrev pub connector_marked : ℕ → Bool
connector_marked marks = eqb (marks % 2) 1

abbrev pub preset_marked : ℕ → Bool
preset_marked marks = eqb (marks / 2 % 2) 1

abbrev pub connector_of : ℕ → ℕ
connector_of byte = byte % 16

abbrev pub preset_of : ℕ → ℕ
preset_of byte = byte / 16 % 8

-- "A part not marked is neither checked nor applied. [..] A marked code not listed: 6."
unfoldable pub connector_good : ℕ → ℕ → Bool
connector_good marks byte = cond (connector_marked marks) (listed connectors (connector_of byte)) true

unfoldable pub preset_good : ℕ → ℕ → Bool
preset_good marks byte = cond (preset_marked marks) (listed presets (preset_of byte)) true

unfoldable pub config_good : ℕ → ℕ → Bool
config_good marks byte = connector_good marks byte && preset_good marks byte

-- ---- 22h: "Connector in bits 0 to 3, act in bits 4 and 5 (house): 1 OFF, 2 ON, 3 ALL RESET"
abbrev pub act_of : ℕ → ℕ
act_of byte = byte / 16 % 4

-- "Act 0, or an unlisted connector with act 1 or 2: 6."; ALL RESET "with no look at the connector"
unfoldable pub select_good : ℕ → Bool
select_good byte = cond (eqb (act_of byte) 3) true (cond (eqb (act_of byte) 0) false (listed connectors (connector_of byte)))
