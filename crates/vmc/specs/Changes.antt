-- For the contracts of the code alone, no sentence of the document: what an order can change of a record, the settings and the shifts, each by itself.
use Rattle.std.specs.Prelude.{ℕ, List, set, replicate, ℤ, pos}
use Rattle.vmc.specs.Orders.{assigned}
use Rattle.vmc_asks.specs.declared.Order.{Order}
use Rattle.vmc_asks.specs.declared.Order.TheVariants.{Set, Shift, Reset, Get}

unfoldable pub settings_after : Order → List ℕ → List ℕ
settings_after (Set k v) s = assigned k v s
settings_after (Shift axis z) s = s
settings_after Reset s = s
settings_after (Get k) s = s

unfoldable pub shifts_after : Order → List ℤ → List ℤ
shifts_after (Set k v) s = s
shifts_after (Shift axis z) s = set s axis z
shifts_after Reset s = replicate 2 (pos 0)
shifts_after (Get k) s = s
