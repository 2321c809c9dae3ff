-- A state's letters name that state, by computation.
use mathlib.Core.Path.{◌≡◌, refl}
use Rattle.std.specs.Prelude.{Some}
use Rattle.kjw_sets.specs.Words.{state_letters}
use Rattle.kjw_sets.specs.declared.State.{State}
use Rattle.kjw_sets.specs.declared.State.TheVariants.{Power, AudioMute, PictureMute, Volume, Input, Scene}
use Rattle.kjw_asks.specs.Asks.{named_in, state_named}

pub letters_name : (s : State) → state_named (state_letters s) ≡ Some s
unfolding state_named named_in state_letters
letters_name Power = refl
letters_name AudioMute = refl
letters_name PictureMute = refl
letters_name Volume = refl
letters_name Input = refl
letters_name Scene = refl
