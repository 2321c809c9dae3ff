-- `asked_box` fills a place a turn: before i each place holds what is asked for there, and from i on no panel.
use Prim.Native.Nat.{ℕ, ◌+◌, ◌*◌, ◌/◌, ◌<◌, ◌≤◌}
use mathlib.Core.Path.{◌≡◌}
use mathlib.Core.Bool.{cond}
use mathlib.Core.List.{List}
use lib.ListN.{length, get_or}
use lib.Dec.{ltb}
use Rattle.panels.specs.Records.{zero_panel, past_end}
use Rattle.configure.specs.Configure.{fresh_panel}
use Rattle.panels.specs.declared.Panel.{Panel}
use Rattle.configure.proofs.asked_box.Given as goal

-- what place k holds after i turns
abbrev pub filled : List ℕ → ℕ → ℕ → Panel
filled c i k = cond (ltb k i) (fresh_panel (get_or c (k * 3) 0) (get_or c (k * 3 + 1) 0) (get_or c (k * 3 + 2) 0)) zero_panel

abbrev pub invariant-loop-i : goal.invariant-loop-i
invariant-loop-i l =
    (l.i ≤ l.n) × ((l.n ≤ 8) × ((l.n ≡ length l.c / 3) × ((length l.panels ≡ 8) × ((k : ℕ) → k < 8 → get_or l.panels k past_end ≡ filled l.c l.i k))))
