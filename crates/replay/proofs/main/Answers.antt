use Rattle.std.proofs.Common.{ℕ, [], rules}
use lib.ListN.{length-replicate}
use Rattle.script_run.proofs.Whole.{reached_first}
use Rattle.replay.proofs.main.Goals as goal

pub loop-init : goal.loop-init
loop-init c = (([], reached_first c.start.ensures (length-replicate {A = ℕ} 4097 0)), length-replicate {A = ℕ} 65536 0, length-replicate {A = ℕ} 65536 0)

pub loop-preserved : goal.loop-preserved
loop-preserved c =
    let v = c.loop.invariant.0 in
    ((_, c.in_ok-p.ensures.ok v.0 v.1), search rules, search rules)
