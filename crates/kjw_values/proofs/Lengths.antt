-- The length of a state's value, by computation.
use mathlib.Core.Path.{◌≡◌, refl}
use mathlib.Core.Bool.{Bool, true, false, cond}
use mathlib.Core.List.{List}
use Prim.Native.Nat.{ℕ}
use lib.ListN.{length}
use lib.Dec.{eqb}
use Rattle.panels.specs.declared.KRecord.{KRecord}
use Rattle.decimals.specs.Decimals.{in_digits}
use Rattle.kjw_sets.specs.Words.{off, on, auto, auto_sync, general}
use Rattle.kjw_values.specs.Values.{switch_word, scene_word, input_word, value_of}
use Rattle.kjw_sets.specs.declared.State.{State}
use Rattle.kjw_sets.specs.declared.State.TheVariants.{Power, AudioMute, PictureMute, Volume, Input, Scene}

cond_length : (b : Bool) (x y : List ℕ) → length x ≡ 16 → length y ≡ 16 → length (cond b x y) ≡ 16
cond_length true x y e f = e
cond_length false x y e f = f

switch_length : (v : ℕ) → length (switch_word v) ≡ 16
unfolding switch_word
switch_length v = cond_length (eqb v 0) off on refl refl

pub value_length : (s : State) (k : KRecord) → length (value_of s k) ≡ 16
unfolding value_of scene_word input_word in_digits
value_length Power k = switch_length k.power
value_length AudioMute k = switch_length k.amut
value_length PictureMute k = switch_length k.pmut
value_length Volume k = refl
value_length Input k = refl
value_length Scene k = cond_length (eqb k.scene 0) auto (cond (eqb k.scene 1) auto_sync general) refl (cond_length (eqb k.scene 1) auto_sync general refl refl)
