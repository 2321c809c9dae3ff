-- `changed` goes by the order, as the settings and the shifts after it do.
use mathlib.Core.Path.{◌≡◌, refl, ap, ◌∙◌}
use lib.ListN.{set}
use mir.Syntax.{w8}
use mir.Val.{to_z, of_z}
use borrow.Author.Rules.{rules}
use Rattle.vmc.specs.Changes.{settings_after, shifts_after}
use Rattle.vmc.proofs.changed.Goals as goal

pub returns-in-Set : goal.returns-in-Set
unfolding settings_after shifts_after
returns-in-Set c = rw c.in-Set.is (c.assign.ensures, refl)

pub returns-in-Shift : goal.returns-in-Shift
unfolding settings_after shifts_after
returns-in-Shift c =
    let a = c.args in
    let z = c.in-Shift.z in
    let e : to_z w8 (of_z w8 z) ≡ z = search rules in
    rw c.in-Shift.is (refl, c.moved.ensures ∙ ap (set a.shifts c.in-Shift.axis) e)

pub returns-in-Reset : goal.returns-in-Reset
unfolding settings_after shifts_after
returns-in-Reset c = rw c.in-Reset.is (refl, refl)

pub returns-in-Get : goal.returns-in-Get
unfolding settings_after shifts_after
returns-in-Get c = rw c.in-Get.is (refl, refl)
