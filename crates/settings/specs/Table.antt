-- Document 01, "SDCP and VMC" and "Start values", and document 02, §4: the one table of a W panel's settings, in the order of its
-- record.
use Rattle.std.specs.Prelude.{ℕ, suc, ◌-◌, cond, List, [], ◌∷◌, ◌++◌, map, length, ℤ, negsuc}
use Prim.Native.String.{String}
use Rattle.laws.specs.Bytes.{ascii, same}

-- a setting: its name, what parts the name from its value, the words of its values 0, 1 and so on (a level has none: its
-- value is a number), its greatest value and its start value
pub record Setting : Type 0 where
  pub name : List ℕ
  pub between : List ℕ
  pub words : List (List ℕ)
  pub most : ℕ
  pub start : ℕ

abbrev pub space : List ℕ
space = 0x20 ∷ []

-- "PHASE, CHROMA or VOLUME with 0 to 100"
abbrev pub most_level : ℕ
most_level = 100

-- "SHIFTH or SHIFTV with -30 to +30"
abbrev pub least_shift : ℤ
least_shift = negsuc 29

abbrev pub most_shift : ℕ
most_shift = 30

abbrev pub level : String → ℕ → Setting
level name start = record { name = ascii name; between = space; words = []; most = most_level; start = start }

abbrev pub choice : String → List ℕ → List (List ℕ) → ℕ → Setting
choice name between words start = record { name = ascii name; between = between; words = words; most = length words - 1; start = start }

-- "ON or OFF after REMOTE, [..] each a switch of its own"
abbrev pub switch : String → ℕ → Setting
switch name start = choice name space (ascii "OFF" ∷ ascii "ON" ∷ []) start

-- "MODE0, MODE1, MODE2; NTSC0, NTSC75; RGB RANGE FULL or LIMITED"; and the start values: "PHASE 50, CHROMA 50, VOLUME 30,
-- [..] MODE0, NTSC0, RGB RANGE FULL, switches OFF but REMOTE ON". Each has a place of its own in the record
abbrev pub table : List Setting
table =
    level "PHASE" 50 ∷
    level "CHROMA" 50 ∷
    level "VOLUME" 30 ∷
    choice "MODE" [] (ascii "0" ∷ ascii "1" ∷ ascii "2" ∷ []) 0 ∷
    choice "NTSC" [] (ascii "0" ∷ ascii "75" ∷ []) 0 ∷
    choice "RGB RANGE" space (ascii "FULL" ∷ ascii "LIMITED" ∷ []) 0 ∷
    switch "REMOTE" 1 ∷
    switch "POWERSAVING" 0 ∷
    switch "KEYINHIBIT" 0 ∷
    switch "TALLYGREEN" 0 ∷
    switch "TALLYRED" 0 ∷
    switch "HVDELAY" 0 ∷
    switch "BLUEONLY" 0 ∷
    switch "MONOCHR" 0 ∷
    switch "CAMERA FOCUS" 0 ∷
    switch "LED" 0 ∷
    switch "SCREENSAVER" 0 ∷
    switch "SILENTMODE" 0 ∷ []

-- Document 02, §4, "The panel has a single flip: none, H, V or HV": 0, 1, 2 and 3 in the record's place behind the table's settings
abbrev pub flip_place : ℕ
flip_place = 18

abbrev pub no_flip : ℕ
no_flip = 0

abbrev pub most_flip : ℕ
most_flip = 3

-- its three words, each with ON or OFF behind it
abbrev pub flips : List Setting
flips = switch "FLIPH" 0 ∷ switch "FLIPV" 0 ∷ switch "FLIPHV" 0 ∷ []

-- all that has a name, in the order of the names
abbrev pub all_named : List Setting
all_named = table ++ flips

-- the numbers of the names: the levels stand first, then the choices, the flip words last of them; behind them SHIFTH and SHIFTV
abbrev pub level_count : ℕ
level_count = 3

abbrev pub setting_count : ℕ
setting_count = 21

abbrev pub name_count : ℕ
name_count = 23

-- where the setting of a name stands; behind the end where none has it
abbrev pub place_named : List ℕ → List Setting → ℕ
place_named name [] = 0
place_named name (s ∷ ss) = cond (same name s.name) 0 (suc (place_named name ss))

abbrev pub remote : ℕ
remote = place_named (ascii "REMOTE") table

-- so many places have the settings in the record
abbrev pub place_count : ℕ
place_count = 19

-- the columns of numbers, as they stand in the record: the table's, and behind them the flip's, which starts as none
abbrev pub mosts : List ℕ
mosts = map (λ (s : Setting). s.most) table ++ (most_flip ∷ [])

abbrev pub starts : List ℕ
starts = map (λ (s : Setting). s.start) table ++ (no_flip ∷ [])

-- the greatest value behind each name
abbrev pub tops : List ℕ
tops = map (λ (s : Setting). s.most) all_named
