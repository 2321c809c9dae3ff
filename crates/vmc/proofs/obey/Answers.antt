-- `obey` puts the settings and the shifts after the order into the record: whatever the order, these are all that it changes.
use mathlib.Core.Path.{◌≡◌, refl}
use Rattle.panels.specs.declared.WRecord.{WRecord}
use Rattle.vmc_asks.specs.declared.Order.{Order}
use Rattle.vmc_asks.specs.declared.Order.TheVariants.{Set, Shift, Reset, Get}
use Rattle.vmc.specs.Orders.{with_settings, with_shifts, carried}
use Rattle.vmc.specs.Changes.{settings_after, shifts_after}
use Rattle.vmc.proofs.obey.Goals as goal

changes_alone : (o : Order) (w : WRecord) → with_shifts (with_settings w (settings_after o w.settings)) (shifts_after o w.shifts) ≡ carried o w
unfolding settings_after shifts_after carried
changes_alone (Set k v) w = refl
changes_alone (Shift axis z) w = refl
changes_alone Reset w = refl
changes_alone (Get k) w = refl

pub returns : goal.returns
returns c =
    let a = c.args in
    let e = c.changed.ensures in
    rw (e.0, e.1) (changes_alone a.o a.w)
