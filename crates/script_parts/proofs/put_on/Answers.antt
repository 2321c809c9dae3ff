use mathlib.Core.Path.{◌≡◌}
use mathlib.Core.Bool.{cond}
use mathlib.Core.List.{[]}
use Prim.Native.Nat.{◌+◌}
use lib.Dec.{eqb}
use lib.ListN.{length, get_or, drop}
use borrow.Author.Rules.{rules}
use native.Mathlib.Omega.{arith}
use Rattle.laws.specs.Bytes.{ascii}
use Rattle.panels.specs.Records.{connectors}
use Rattle.script_text.specs.Texts.{number_text}
use Rattle.script_text.proofs.Puts.{under_first, under_next, under_none}
use Rattle.script_parts.specs.Parts.{on_text}
use Rattle.script_parts.proofs.Lines.{on_from, on_behind}
use Rattle.script_parts.proofs.put_on.Goals as goal

pub loop-i-init : goal.loop-i-init
loop-i-init c =
    let a = c.args in
    under_first (on_text connectors a.on) a.out.now a.at

pub loop-i-preserved : goal.loop-i-preserved
loop-i-preserved c =
    let on = c.args.on in
    let i = c.loop-i.i in
    let size : length on ≡ 10 = search rules in
    under_next (cond (eqb (get_or on i 0) 0) [] (number_text (ascii " ") (get_or connectors i 0))) (on_text (drop (i + 1) connectors) (drop (i + 1) on)) c.loop-i.invariant (on_from connectors on i c.loop-i-test.true (omega arith)) c.put_code-to.ensures

pub returns : goal.returns
returns c =
    under_none c.loop-i.invariant (on_behind connectors c.args.on c.loop-i.i (omega arith))
