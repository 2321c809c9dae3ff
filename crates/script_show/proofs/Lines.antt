-- Lists of settings and of connectors from a place on: the one at that place, and those behind it.
use mathlib.Core.Path.{◌≡◌, ap}
use mathlib.Core.List.{List, [], ◌∷◌, ◌++◌}
use Prim.Native.Nat.{ℕ, ◌+◌, ◌<◌, ◌≤◌}
use lib.ListN.{length, get_or, drop}
use Rattle.laws.proofs.Lists.{from, behind}
use Rattle.panels.specs.declared.WRecord.{WRecord}
use Rattle.vmc.specs.Orders.{says_of}
use Rattle.vmc_tells.specs.Texts.{text_of}
use Rattle.vmc_asks.specs.declared.Order.TheVariants.{Get}
use Rattle.script_show.specs.Shown.{settings_text}

pub settings_from : (w : WRecord) (ks : List ℕ) (i : ℕ) → i < length ks → settings_text w (drop i ks) ≡ (0x20 ∷ text_of (says_of (Get (get_or ks i 0)) w)) ++ settings_text w (drop (i + 1) ks)
unfolding settings_text
settings_from w ks i h = ap (settings_text w) (from ks i 0 h)

pub settings_behind : (w : WRecord) (ks : List ℕ) (i : ℕ) → length ks ≤ i → settings_text w (drop i ks) ≡ []
unfolding settings_text
settings_behind w ks i h = ap (settings_text w) (behind ks i h)
