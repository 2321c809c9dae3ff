-- Document 003's table of the remote control's codes, and what document 02, §6, says of each.
use Rattle.std.specs.Prelude.{ℕ, cond, List, [], ◌∷◌, eqb, Option, Some, None}
use Prim.Native.String.{String}
use Rattle.laws.specs.Bytes.{ascii}
use Rattle.remote.specs.declared.Button.{Button}
use Rattle.remote.specs.declared.Button.TheVariants.{Idle, Louder, Softer, Mute, Picture, Power, Hdmi}

-- a row of the table: the button's name, its code, and what it asks
pub record Code : Type 0 where
  pub name : List ℕ
  pub code : ℕ
  pub asks : Button

abbrev pub code : String → ℕ → Button → Code
code name n asks = record { name = ascii name; code = n; asks = asks }

-- the rows in document 003's order. "Volume Up and Down move by one [..]; Mute flips AMUT; Picture Off flips PMUT; TV Power flips POWR;
-- HDMI 1 to 4 choose type 1 and that port. Other listed codes are answered and change nothing."
abbrev pub codes : List Code
codes =
    code "Display" 5 Idle ∷
    code "Home" 6 Idle ∷
    code "Options" 7 Idle ∷
    code "Return" 8 Idle ∷
    code "Up" 9 Idle ∷
    code "Down" 10 Idle ∷
    code "Right" 11 Idle ∷
    code "Left" 12 Idle ∷
    code "Confirm" 13 Idle ∷
    code "Red" 14 Idle ∷
    code "Green" 15 Idle ∷
    code "Yellow" 16 Idle ∷
    code "Blue" 17 Idle ∷
    code "Num1" 18 Idle ∷
    code "Num2" 19 Idle ∷
    code "Num3" 20 Idle ∷
    code "Num4" 21 Idle ∷
    code "Num5" 22 Idle ∷
    code "Num6" 23 Idle ∷
    code "Num7" 24 Idle ∷
    code "Num8" 25 Idle ∷
    code "Num9" 26 Idle ∷
    code "Num0" 27 Idle ∷
    code "Volume Up" 30 Louder ∷
    code "Volume Down" 31 Softer ∷
    code "Mute" 32 Mute ∷
    code "Channel Up" 33 Idle ∷
    code "Channel Down" 34 Idle ∷
    code "Subtitle" 35 Idle ∷
    code "DOT" 38 Idle ∷
    code "Picture Off" 50 Picture ∷
    code "Wide" 61 Idle ∷
    code "Jump" 62 Idle ∷
    code "Sync Menu" 76 Idle ∷
    code "Forward" 77 Idle ∷
    code "Play" 78 Idle ∷
    code "Rewind" 79 Idle ∷
    code "Prev" 80 Idle ∷
    code "Stop" 81 Idle ∷
    code "Next" 82 Idle ∷
    code "Pause" 84 Idle ∷
    code "Flash Plus" 86 Idle ∷
    code "Flash Minus" 87 Idle ∷
    code "TV Power" 98 Power ∷
    code "Audio" 99 Idle ∷
    code "Input" 101 Idle ∷
    code "Sleep" 104 Idle ∷
    code "Sleep Timer" 105 Idle ∷
    code "Video 2" 108 Idle ∷
    code "Picture Mode" 110 Idle ∷
    code "Demo Surround" 121 Idle ∷
    code "HDMI 1" 124 (Hdmi 1) ∷
    code "HDMI 2" 125 (Hdmi 2) ∷
    code "HDMI 3" 126 (Hdmi 3) ∷
    code "HDMI 4" 127 (Hdmi 4) ∷
    code "Action Menu" 129 Idle ∷
    code "Help" 130 Idle ∷
    []

-- what a number asks: what its row says; "an unlisted code" has none
unfoldable pub asked_in : List Code → ℕ → Option Button
asked_in [] n = None
asked_in (c ∷ cs) n = cond (eqb n c.code) (Some c.asks) (asked_in cs n)

unfoldable pub button_of : ℕ → Option Button
button_of n = asked_in codes n
