-- Document 01, "KJW (003)": what a control with a state's letters orders.
use Rattle.std.specs.Prelude.{ℕ, ◌+◌, Bool, cond, ◌&&◌, List, [], ◌∷◌, length, eqb, leb, Option, Some, None}
use Rattle.laws.specs.Bytes.{ascii, part, same}
use Rattle.laws.specs.Lists.{every}
use Rattle.panels.specs.Records.{most_volume}
use Rattle.panels.specs.Valid.{ok_input}
use Rattle.decimals.specs.Decimals.{is_digit, decimal}
use Rattle.kjw_sets.specs.Words.{switches, scenes}
use Rattle.kjw_sets.specs.declared.State.{State}
use Rattle.kjw_sets.specs.declared.State.TheVariants.{Power, AudioMute, PictureMute, Volume, Input, Scene}
use Rattle.kjw_sets.specs.declared.Order.{Order}
use Rattle.kjw_sets.specs.declared.Order.TheVariants.{SetPower, SetAudioMute, SetPictureMute, SetVolume, SetInput, SetScene}

-- POWR, AMUT, PMUT and SCEN have words: the parameters are one of them, by its number, or none. Which of some words they are, where the
-- first has the number i
unfoldable pub chosen_from : ℕ → List (List ℕ) → List ℕ → Option ℕ
chosen_from i [] p = None
chosen_from i (w ∷ ws) p = cond (same p w) (Some i) (chosen_from (i + 1) ws p)

-- and where it has the number 0
abbrev pub chosen : List (List ℕ) → List ℕ → Option ℕ
chosen ws p = chosen_from 0 ws p

-- the order with the number of the word
abbrev pub choice_order : (ℕ → Order) → Option ℕ → Option Order
choice_order order (Some v) = Some (order v)
choice_order order None = None

-- "VOLU, 16 decimal digits, 0 to 100 (house)"
unfoldable pub is_volume : List ℕ → Bool
is_volume p = every is_digit p && leb (decimal p) most_volume

unfoldable pub volume_order : List ℕ → Option Order
volume_order p = cond (is_volume p) (Some (SetVolume (decimal p))) None

-- "INPT is seven `0`, type [..], four `0`, port [..]"
unfoldable pub is_padded : List ℕ → Bool
is_padded p = same (part 0 7 p) (ascii "0000000") && same (part 8 4 p) (ascii "0000")

abbrev pub kind_in : List ℕ → List ℕ
kind_in p = part 7 1 p

abbrev pub port_in : List ℕ → List ℕ
port_in p = part 12 4 p

-- "type 1, 3, 4 or 5, [..] port 0001 to 9999": an input, where there is such a one
unfoldable pub input_of : ℕ → ℕ → Option Order
input_of kind port = cond (ok_input kind port) (Some (SetInput kind port)) None

unfoldable pub input_order : List ℕ → Option Order
input_order p =
    cond (is_padded p && every is_digit (kind_in p) && every is_digit (port_in p)) (input_of (decimal (kind_in p)) (decimal (port_in p))) None

-- what sixteen parameters make of a state; "All else: 6."
unfoldable pub set_by : State → List ℕ → Option Order
set_by Power p = choice_order SetPower (chosen switches p)
set_by AudioMute p = choice_order SetAudioMute (chosen switches p)
set_by PictureMute p = choice_order SetPictureMute (chosen switches p)
set_by Volume p = volume_order p
set_by Input p = input_order p
set_by Scene p = choice_order SetScene (chosen scenes p)

-- C with a state's letters: what the "16 parameters" order; any other number of them nothing
unfoldable pub set_of : State → List ℕ → Option Order
set_of s p = cond (eqb (length p) 16) (set_by s p) None
