-- Document 01, "RS-232C (002, 004)": what 21h and 22h do to a W panel's inputs.
use Rattle.std.specs.Prelude.{ℕ, suc, cond, List, [], ◌∷◌, eqb, get_or, set, replicate}
use Rattle.laws.specs.Lists.{every}
use Rattle.panels.specs.Records.{connectors}
use Rattle.panels.specs.declared.Inputs.{Inputs}
use Rattle.rs232c_asks.specs.Commands.{connector_marked, preset_marked, connector_of, preset_of, act_of}

-- where a code stands in a table of codes; behind its end where it is not listed
abbrev pub place_in : List ℕ → ℕ → ℕ
place_in [] code = 0
place_in (c ∷ cs) code = cond (eqb code c) 0 (suc (place_in cs code))

unfoldable pub place_of : ℕ → ℕ
place_of code = place_in connectors code

-- "A connector that is OFF is ignored"
unfoldable pub used_after : ℕ → ℕ → Inputs → ℕ
used_after marks byte i =
    cond (connector_marked marks) (cond (eqb (get_or i.on (place_of (connector_of byte)) 0) 1) (connector_of byte) i.used) i.used

-- "the preset still applied"
unfoldable pub preset_after : ℕ → ℕ → Inputs → ℕ
preset_after marks byte i = cond (preset_marked marks) (preset_of byte) i.preset

abbrev pub configured_by : ℕ → ℕ → Inputs → Inputs
configured_by marks byte i = record { used = used_after marks byte i; preset = preset_after marks byte i; on = i.on }

-- 002 and 004, Input Select: OFF for the only connector that is ON is ignored, so that one stays ON
unfoldable pub turned_off : List ℕ → ℕ → List ℕ
turned_off on place = cond (every (eqb 0) (set on place 0)) on (set on place 0)

-- "ALL RESET, which turns all ten ON"
unfoldable pub on_after : ℕ → List ℕ → List ℕ
on_after byte on =
    cond (eqb (act_of byte) 1) (turned_off on (place_of (connector_of byte)))
    (cond (eqb (act_of byte) 2) (set on (place_of (connector_of byte)) 1)
    (replicate 10 1))

-- "The connector in use may be turned OFF and stays in use."
abbrev pub selected_by : ℕ → Inputs → Inputs
selected_by byte i = record { used = i.used; preset = i.preset; on = on_after byte i.on }
