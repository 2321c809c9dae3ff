-- `obey_all` gives each panel its turn: before i all have had it, from i on all are as they were.
use mathlib.Core.Path.{◌≡◌}
use lib.ListN.{length}
use Rattle.laws.specs.Runs.{first_each}
use Rattle.ways_in.specs.Turns.{heeded}
use Rattle.ways_in.proofs.obey_all.Given as goal

abbrev pub invariant-loop-i : goal.invariant-loop-i
invariant-loop-i l = (length l.initial.qs ≡ 8) × (l.qs ≡ first_each (heeded l.m l.o) l.i l.initial.qs)
