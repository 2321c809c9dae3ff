-- `whole` asks for 13 bytes, then for as many as bytes 11 and 12 say.
use native.Mathlib.Omega.{arith}
use mathlib.Core.Path.{ap}
use Rattle.receiver.specs.Stream.{counted}
use Rattle.receiver.specs.Both.{both}
use Rattle.receiver.proofs.Taking.{too_few, too_long_lem, some_long, size_at}
use Rattle.receiver.proofs.Unread.whole.Goals as goal

pub returns-then-len-lt13 : goal.returns-then-len-lt13
returns-then-len-lt13 c = ap counted (too_few (both c.args.self) (omega arith))

pub returns-then-len-n : goal.returns-then-len-n
returns-then-len-n c =
    let k = size_at (both c.args.self) c.byte.result c.byte-2.result c.number2.result c.size_of-n.result c.byte.ensures c.byte-2.ensures c.number2.ensures c.size_of-n.ensures in
    ap counted (too_long_lem (both c.args.self) c.size_of-n.result (omega arith) k (omega arith))

pub returns : goal.returns
returns c =
    let k = size_at (both c.args.self) c.byte.result c.byte-2.result c.number2.result c.size_of-n.result c.byte.ensures c.byte-2.ensures c.number2.ensures c.size_of-n.ensures in
    some_long (both c.args.self) c.size_of-n.result (omega arith) k (omega arith)
