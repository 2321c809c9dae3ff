-- `ten_digits` takes the powers of ten off one after the other: the digits before the place are done, and those behind it are still `0`.
use Prim.Native.Nat.{◌+◌, ◌-◌}
use Rattle.decimals.proofs.Taken.{Taking}
use Rattle.decimals.proofs.ten_digits.Given as goal

abbrev pub invariant-loop-n : goal.invariant-loop-n
invariant-loop-n l = Taking l.v l.d l.rest l.n

abbrev pub decreases-loop-n : goal.decreases-loop-n
decreases-loop-n l = l.rest + (10 - l.n)
