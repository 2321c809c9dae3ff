-- `is_hex` asks the tests of the definition in turn.
use Rattle.std.proofs.Common.{arith}
use Rattle.std.proofs.lemmas.Bool.Decides.{nat_tests}
use Rattle.script_hex.proofs.Hex.{no_dash}
use Rattle.script_hex.proofs.is_hex.Goals as goal

pub returns-then-not-contains : goal.returns-then-not-contains
returns-then-not-contains c =
    let e = no_dash c.args.w.now _ c.as_slice.ensures c.if-eq.ensures in
    grind (arith, nat_tests, e)

pub returns-then-w-eq0 : goal.returns-then-w-eq0
returns-then-w-eq0 c =
    let e = no_dash c.args.w.now _ c.as_slice.ensures c.if-eq.ensures in
    grind (arith, nat_tests, e)

pub returns-else-w-eq0 : goal.returns-else-w-eq0
returns-else-w-eq0 c =
    let e = no_dash c.args.w.now _ c.as_slice.ensures c.if-eq.ensures in
    grind (arith, nat_tests, e)
