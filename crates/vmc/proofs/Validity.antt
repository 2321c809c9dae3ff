-- A valid record stays valid: data is understood only where its value is in the setting's range.
use Prim.Native.Nat.{ℕ, ◌<◌, ◌≤◌}
use mathlib.Core.Path.{◌≡◌, refl}
use mathlib.Core.Bool.{true}
use mathlib.Core.List.{List}
use borrow.Author.Tests.{le-leb}
use lib.IntN.{pos}
use lib.ListN.{get_or}
use Rattle.std.specs.Prelude.{Some}
use Rattle.laws.proofs.Lists.{every_set}
use Rattle.settings.specs.Table.{most_shift, name_count, setting_count, tops}
use Rattle.panels.specs.Valid.{ok_shift, ok_w}
use Rattle.panels.specs.declared.WRecord.{WRecord}
use Rattle.panels.proofs.Ranges.{InRange, parts, whole}
use Rattle.vmc.specs.Orders.{carried}
use Rattle.trimming.specs.Trimming.{trimmed}
use Rattle.vmc_asks.specs.Asks.{read_data}
use Rattle.vmc_asks.specs.declared.Order.{Order}
use Rattle.vmc_asks.specs.declared.Order.TheVariants.{Set, Shift, Reset, Get}
use Rattle.vmc.proofs.Flip.{assigned_within}
use Rattle.vmc.proofs.Only.{sets, moves, plain, resets, Asks, stat_set, stat_get, only}

-- the numbers of an order, each in its range
abbrev pub Fits : Order → Type 0
Fits (Set k v) = (k < setting_count) × (v ≤ get_or tops k 0)
Fits (Shift axis z) = (axis < 2) × (ok_shift z ≡ true)
Fits Reset = Unit {0}
Fits (Get k) = k < name_count

plain_fits : (n : ℕ) → n ≤ most_shift → ok_shift (pos n) ≡ true
unfolding ok_shift
plain_fits n h = le-leb n most_shift h

asks_fits : (d : List ℕ) (o : Order) → Asks d o → Fits o
asks_fits _ _ (stat_set _ _ (sets k v h l)) = (h, l)
asks_fits _ _ (stat_set _ _ (moves axis z h e)) = (h, e)
asks_fits _ _ (stat_set _ _ (plain axis n h l)) = (h, plain_fits n l)
asks_fits _ _ (stat_set _ _ resets) = tt
asks_fits _ _ (stat_get k h) = h

-- an order that was understood names one of the settings, with a value in its range
pub understood_fits : (d : List ℕ) (o : Order) → read_data d ≡ Some o → Fits o
understood_fits d o e = asks_fits (trimmed d) o (only d o e)

pub carried_fits : (o : Order) (w : WRecord) → Fits o → InRange w → InRange (carried o w)
unfolding carried ok_shift
carried_fits (Set k v) w f r = record { settings_ok = assigned_within k v w.settings f.0 f.1 r.settings_ok; shifts_ok = r.shifts_ok; inputs_ok = r.inputs_ok; balance_ok = r.balance_ok }
carried_fits (Shift axis z) w f r = record { settings_ok = r.settings_ok; shifts_ok = every_set ok_shift w.shifts axis z r.shifts_ok f.1; inputs_ok = r.inputs_ok; balance_ok = r.balance_ok }
carried_fits Reset w f r = record { settings_ok = r.settings_ok; shifts_ok = refl; inputs_ok = r.inputs_ok; balance_ok = r.balance_ok }
carried_fits (Get k) w f r = r

-- a valid record stays valid, whatever was understood
pub carried_valid : (d : List ℕ) (o : Order) (w : WRecord) → read_data d ≡ Some o → ok_w w ≡ true → ok_w (carried o w) ≡ true
carried_valid d o w e v = whole (carried o w) (carried_fits o w (understood_fits d o e) (parts w v))
