-- Document 02, §4: a panel's flip is none, H, V or HV, and no other number: by computing.
use Prim.Native.Nat.{ℕ}
use mathlib.Core.Path.{◌≡◌, refl}
use mathlib.Core.Bool.{Bool, true, false}
use mathlib.Core.List.{[], ◌∷◌, map}
use lib.ListN.{set}
use Rattle.settings.specs.Table.{flip_place}
use Rattle.panels.specs.Records.{start_w}
use Rattle.panels.specs.Valid.{ok_shift, ok_gain, ok_bias, ok_inputs, ok_balance, ok_w}

keeps_range : ℕ → Bool
keeps_range flip = ok_w (record { settings = set start_w.settings flip_place flip; shifts = start_w.shifts; spare = start_w.spare; inputs = start_w.inputs; balance = start_w.balance })

flips_judged : map keeps_range (0 ∷ 1 ∷ 2 ∷ 3 ∷ 4 ∷ 255 ∷ []) ≡ true ∷ true ∷ true ∷ true ∷ false ∷ false ∷ []
unfolding keeps_range ok_shift ok_gain ok_bias ok_inputs ok_balance ok_w
flips_judged = refl
