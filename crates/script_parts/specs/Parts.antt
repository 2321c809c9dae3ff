-- docs/SCRIPTS.md, `show`: the connectors and the white balance of a W panel, and the line of a K panel.
use Rattle.std.specs.Prelude.{ℕ, cond, List, [], ◌∷◌, ◌++◌, eqb}
use Rattle.laws.specs.Bytes.{ascii}
use Rattle.panels.specs.Records.{connectors}
use Rattle.panels.specs.declared.Inputs.{Inputs}
use Rattle.panels.specs.declared.KRecord.{KRecord}
use Rattle.script_text.specs.Texts.{number_text}

-- "the codes of the connectors that are on", rising
unfoldable pub on_text : List ℕ → List ℕ → List ℕ
on_text [] fs = []
on_text (c ∷ cs) [] = []
on_text (c ∷ cs) (f ∷ fs) = cond (eqb f 0) [] (number_text (ascii " ") c) ++ on_text cs fs

unfoldable pub inputs_text : Inputs → List ℕ
inputs_text i =
    number_text (ascii " INPUT ") i.used ++ ascii " ON" ++ on_text connectors i.on ++ number_text (ascii " PRESET ") i.preset

-- ---- a K panel: "K POWR 0 INPT 1 1 VOLU 0 AMUT 0 PMUT 0 SCEN general"

unfoldable pub scene_text : ℕ → List ℕ
scene_text v = cond (eqb v 0) (ascii " SCEN auto") (cond (eqb v 1) (ascii " SCEN auto24pSync") (ascii " SCEN general"))

-- the input's type and port
unfoldable pub input_text : KRecord → List ℕ
input_text k = number_text (ascii " INPT ") k.kind ++ number_text (ascii " ") k.port

unfoldable pub mutes_text : KRecord → List ℕ
mutes_text k = number_text (ascii " AMUT ") k.amut ++ number_text (ascii " PMUT ") k.pmut

unfoldable pub k_text : KRecord → List ℕ
k_text k =
    number_text (ascii "K POWR ") k.power ++ input_text k ++ number_text (ascii " VOLU ") k.volume ++ mutes_text k
    ++ scene_text k.scene
