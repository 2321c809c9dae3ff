-- Document 01, "KJW (003)": the letters of the states, and the words of a control's parameters.
use Rattle.std.specs.Prelude.{ℕ, List, [], ◌∷◌}
use Rattle.laws.specs.Bytes.{ascii}
use Rattle.kjw_sets.specs.declared.State.{State}
use Rattle.kjw_sets.specs.declared.State.TheVariants.{Power, AudioMute, PictureMute, Volume, Input, Scene}

-- the letters of a state
unfoldable pub state_letters : State → List ℕ
state_letters Power = ascii "POWR"
state_letters AudioMute = ascii "AMUT"
state_letters PictureMute = ascii "PMUT"
state_letters Volume = ascii "VOLU"
state_letters Input = ascii "INPT"
state_letters Scene = ascii "SCEN"

-- "POWR, AMUT, PMUT with fifteen `0` and 0 or 1", and "In PMUT notices 1 means enabled"
abbrev pub off : List ℕ
off = ascii "0000000000000000"

abbrev pub on : List ℕ
on = ascii "0000000000000001"

abbrev pub switches : List (List ℕ)
switches = off ∷ on ∷ []

-- "SCEN `auto`, `auto24pSync` or `general`, padded with `#`"
abbrev pub auto : List ℕ
auto = ascii "auto############"

abbrev pub auto_sync : List ℕ
auto_sync = ascii "auto24pSync#####"

abbrev pub general : List ℕ
general = ascii "general#########"

abbrev pub scenes : List (List ℕ)
scenes = auto ∷ auto_sync ∷ general ∷ []
