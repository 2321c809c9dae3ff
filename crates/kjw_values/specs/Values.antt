-- Document 01, "KJW (003)": each state's value in sixteen bytes.
use Rattle.std.specs.Prelude.{ℕ, cond, List, ◌++◌, replicate, eqb}
use Rattle.panels.specs.declared.KRecord.{KRecord}
use Rattle.decimals.specs.Decimals.{in_digits}
use Rattle.kjw_sets.specs.declared.State.{State}
use Rattle.kjw_sets.specs.declared.State.TheVariants.{Power, AudioMute, PictureMute, Volume, Input, Scene}
use Rattle.kjw_sets.specs.Words.{off, on, auto, auto_sync, general}

-- "fifteen `0` and 0 or 1"
unfoldable pub switch_word : ℕ → List ℕ
switch_word v = cond (eqb v 0) off on

-- "`auto`, `auto24pSync` or `general`, padded with `#`"
unfoldable pub scene_word : ℕ → List ℕ
scene_word v = cond (eqb v 0) auto (cond (eqb v 1) auto_sync general)

-- "INPT is seven `0`, type 1, 3, 4 or 5, four `0`, port 0001 to 9999"
unfoldable pub input_word : ℕ → ℕ → List ℕ
input_word kind port = replicate 7 0x30 ++ in_digits 1 kind ++ replicate 4 0x30 ++ in_digits 4 port

-- what a state is: "answered in the control's layout", and volume in "16 decimal digits"
unfoldable pub value_of : State → KRecord → List ℕ
value_of Power k = switch_word k.power
value_of AudioMute k = switch_word k.amut
value_of PictureMute k = switch_word k.pmut
value_of Volume k = in_digits 16 k.volume
value_of Input k = input_word k.kind k.port
value_of Scene k = scene_word k.scene
