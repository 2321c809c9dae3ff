-- Document 02, §6: what a control with the letters IRCC orders.
use Rattle.std.specs.Prelude.{ℕ, Bool, cond, ◌&&◌, List, length, eqb, Option, None, option_map}
use Rattle.laws.specs.Lists.{every}
use Rattle.decimals.specs.Decimals.{is_digit, decimal}
use Rattle.remote.specs.Codes.{button_of}
use Rattle.remote.specs.declared.Button.{Button}
use Rattle.remote.specs.declared.Button.TheVariants.{Idle, Louder, Softer, Mute, Picture, Power, Hdmi}
use Rattle.kjw_sets.specs.declared.Order.{Order}
use Rattle.kjw_sets.specs.declared.Order.TheVariants.{TogglePower, ToggleAudioMute, TogglePictureMute, SetInput, Pass}
use Rattle.kjw_sets.specs.declared.Order.TheVariants as orders

-- what each button orders: "Volume Up and Down move by one [..]; Mute flips AMUT; Picture Off flips PMUT; TV Power flips POWR; HDMI 1 to 4
-- choose type 1 and that port. Other listed codes are answered and change nothing."
abbrev pub pressed : Button → Order
pressed Idle = Pass
pressed Louder = orders.Louder
pressed Softer = orders.Softer
pressed Mute = ToggleAudioMute
pressed Picture = TogglePictureMute
pressed Power = TogglePower
pressed (Hdmi port) = SetInput 1 port

-- "sixteen decimal digits"
unfoldable pub is_code : List ℕ → Bool
is_code p = eqb (length p) 16 && every is_digit p

-- the code is the number that they write; "an unlisted code, or a parameter that isn't sixteen digits, is 6"
unfoldable pub code_order : List ℕ → Option Order
code_order p = cond (is_code p) (option_map pressed (button_of (decimal p))) None
