-- `empty_receiver` is the record that holds no bytes: 512 zeros stand behind none.
use mathlib.Core.Path.{refl}
use Rattle.receiver.specs.Calls.{holding}
use Rattle.receiver.proofs.empty_receiver.Goals as goal

pub returns : goal.returns
unfolding holding
returns c = refl
