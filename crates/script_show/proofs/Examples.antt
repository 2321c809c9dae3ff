-- The lines of `show`, byte for byte: all by computation.
use mathlib.Core.Path.{◌≡◌, refl}
use Rattle.laws.specs.Bytes.{ascii}
use Rattle.decimals.specs.Decimals.{in_digits, numeral}
use Rattle.decimals.specs.Plain.{width_from, width, plain}
use Rattle.panels.specs.Records.{family_w, family_k}
use Rattle.configure.specs.Configure.{fresh_panel}
use Rattle.vmc.specs.Orders.{says_of}
use Rattle.vmc_tells.specs.Texts.{value_words, shift_words, set_words, move_words, text_of}
use Rattle.script_text.specs.Texts.{number_text, signed_text}
use Rattle.script_show.specs.Shown.{settings_text, w_text, panel_text}
use Rattle.script_parts.specs.Parts.{on_text, inputs_text, scene_text, input_text, mutes_text, k_text}
use Rattle.script_balance.specs.Balance.{gains_text, bias_text, biases_text, balance_text}

-- a W panel at its start values
fresh_w : panel_text (fresh_panel family_w 1 2) ≡ ascii "W 1 2 PHASE 50 CHROMA 50 VOLUME 30 SHIFTH 0 SHIFTV 0 MODE0 NTSC0 RGB RANGE FULL REMOTE ON POWERSAVING OFF KEYINHIBIT OFF TALLYGREEN OFF TALLYRED OFF HVDELAY OFF BLUEONLY OFF MONOCHR OFF CAMERA FOCUS OFF LED OFF SCREENSAVER OFF SILENTMODE OFF FLIPH OFF FLIPV OFF FLIPHV OFF INPUT 0 ON 0 2 4 5 6 7 8 9 10 11 PRESET 3 GAIN 2048 2048 2048 BIAS 0 0 0"
unfolding panel_text w_text settings_text inputs_text on_text balance_text gains_text biases_text bias_text signed_text number_text plain width width_from in_digits numeral says_of text_of set_words value_words move_words shift_words
fresh_w = refl

-- "K POWR 0 INPT 1 1 VOLU 0 AMUT 0 PMUT 0 SCEN general"
fresh_k : panel_text (fresh_panel family_k 0 0) ≡ ascii "K POWR 0 INPT 1 1 VOLU 0 AMUT 0 PMUT 0 SCEN general"
unfolding panel_text k_text input_text mutes_text scene_text number_text plain width width_from in_digits
fresh_k = refl
