-- What an order does not name stays: a set changes one place, and ON for a flip word ends the other two.
use Prim.Native.Nat.{ℕ, ◌+◌, ◌-◌, ◌<◌, ◌≤◌}
use mathlib.Core.Path.{◌≡◌, refl, ap}
use mathlib.Core.Bool.{Bool, true, false, cond}
use mathlib.Core.List.{List}
use native.Mathlib.Omega.{arith}
use borrow.Author.Tests.{ltb-true, ltb-false, eqb-false, leb-false}
use lib.Dec.{ltb}
use lib.IntN.{ℤ, pos}
use lib.ListN.{get_or, set, replicate}
use lib.Seq.{get_or-set_other}
use Rattle.settings.specs.Table.{setting_count}
use Rattle.panels.specs.declared.WRecord.{WRecord}
use Rattle.vmc.specs.Orders.{with_settings, with_shifts, assigned, value_at, carried, says_of}
use Rattle.vmc_asks.specs.declared.Order.{Order}
use Rattle.vmc_asks.specs.declared.Order.TheVariants.{Set, Shift, Reset, Get}
use Rattle.vmc_tells.specs.declared.Says.TheVariants.{Value, Offset}
use Rattle.vmc.proofs.Flip.{assigned_other}
use Rattle.vmc.proofs.AskedBack.{touches, Stays}

-- where only the settings and the shifts are others, and those that an order does not set read the same, all else stays
moved : (o : Order) (w : WRecord) (s : List ℕ) (zs : List ℤ) → ((j : ℕ) → touches o j ≡ false → j < setting_count → value_at j s ≡ value_at j w.settings) → ((j : ℕ) → touches o j ≡ false → setting_count ≤ j → get_or zs (j - setting_count) (pos 0) ≡ get_or w.shifts (j - setting_count) (pos 0)) → Stays o w (with_shifts (with_settings w s) zs)
unfolding says_of
moved o w s zs p q = record { told_stays = λ j n. go j n (ltb j setting_count) refl; spare_stays = refl; inputs_stay = refl; balance_stays = refl }
  where
    go : (j : ℕ) → touches o j ≡ false → (b : Bool) → ltb j setting_count ≡ b → cond b (Value j (value_at j s)) (Offset j (get_or zs (j - setting_count) (pos 0))) ≡ cond b (Value j (value_at j w.settings)) (Offset j (get_or w.shifts (j - setting_count) (pos 0)))
    go j n true e = ap (Value j) (p j n (ltb-true j setting_count e))
    go j n false e = ap (Offset j) (q j n (ltb-false j setting_count e))

-- whatever was ordered, all else stays
pub stays : (o : Order) (w : WRecord) → Stays o w (carried o w)
unfolding carried
stays (Set k v) w = moved (Set k v) w (assigned k v w.settings) w.shifts (λ j n h. assigned_other k v j w.settings h n) (λ j n h. refl)
stays (Shift axis z) w =
    moved (Shift axis z) w w.settings (set w.shifts axis z) (λ j n h. refl)
    (λ j n h. let m = eqb-false j (setting_count + axis) n in get_or-set_other w.shifts axis (j - setting_count) z (pos 0) (λ e. m (omega arith)))
stays Reset w = moved Reset w w.settings (replicate 2 (pos 0)) (λ j n h. refl) (λ j n h. let l = leb-false setting_count j n in absurd (omega arith))
stays (Get k) w = moved (Get k) w w.settings w.shifts (λ j n h. refl) (λ j n h. refl)
