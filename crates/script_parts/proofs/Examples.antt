-- Parts of the lines of `show`, byte for byte: all by computation.
use mathlib.Core.Path.{◌≡◌, refl}
use mathlib.Core.List.{[], ◌∷◌}
use lib.ListN.{replicate}
use Rattle.laws.specs.Bytes.{ascii}
use Rattle.decimals.specs.Decimals.{in_digits}
use Rattle.decimals.specs.Plain.{width_from, width, plain}
use Rattle.panels.specs.Records.{connectors}
use Rattle.script_text.specs.Texts.{number_text}
use Rattle.script_parts.specs.Parts.{on_text, inputs_text, scene_text, input_text, mutes_text, k_text}

-- a K panel with another input, its greatest port, and each other scene
k_auto : k_text (record { power = 1; amut = 1; pmut = 0; volume = 100; scene = 0; kind = 5; port = 9999 }) ≡ ascii "K POWR 1 INPT 5 9999 VOLU 100 AMUT 1 PMUT 0 SCEN auto"
unfolding k_text input_text mutes_text scene_text number_text plain width width_from in_digits
k_auto = refl

k_sync : scene_text 1 ≡ ascii " SCEN auto24pSync"
unfolding scene_text
k_sync = refl

-- connectors that are off are left out, and a bias below 0 has its sign
some_on : inputs_text (record { used = 4; preset = 2; on = 0 ∷ 1 ∷ 0 ∷ 0 ∷ 0 ∷ 0 ∷ 0 ∷ 0 ∷ 1 ∷ 0 ∷ [] }) ≡ ascii " INPUT 4 ON 2 10 PRESET 2"
unfolding inputs_text on_text number_text plain width width_from in_digits
some_on = refl

none_on : on_text connectors (replicate 10 0) ≡ []
unfolding on_text
none_on = refl
