-- `tell` goes by the order: all but a question are told nothing.
use mathlib.Core.Path.{◌≡◌, refl}
use Prim.Native.Nat.{ℕ}
use Rattle.panels.specs.declared.WRecord.{WRecord}
use Rattle.vmc.specs.Orders.{says_of}
use Rattle.vmc_asks.specs.declared.Order.{Order}
use Rattle.vmc_asks.specs.declared.Order.TheVariants.{Set, Shift, Reset, Get}
use Rattle.vmc_tells.specs.declared.Says.TheVariants.{Bare}
use Rattle.vmc.proofs.tell.Goals as goal

bare : (o : Order) (w : WRecord) → ((k : ℕ) → o ≡ Get k → ⊥) → Bare ≡ says_of o w
unfolding says_of
bare (Set k v) w n = refl
bare (Shift axis z) w n = refl
bare Reset w n = refl
bare (Get k) w n = absurd (n k refl)

pub returns-in_default : goal.returns-in_default
returns-in_default c = bare c.args.o c.args.w c.in_default.not-Get
