-- `put_hex` asks whether there are bytes, as the definition does.
use mathlib.Core.Path.{sym}
use borrow.Author.Tests.{eqb-false, eqb-true}
use Rattle.script_text.proofs.Texts.{hex_none, hex_some}
use Rattle.script_text.proofs.put_hex.Goals as goal

pub returns-then-is_empty : goal.returns-then-is_empty
returns-then-is_empty c = rw (hex_none c.args.bytes.now (eqb-true _ 0 (sym c.if-is_empty.ensures))) c.put.ensures

pub returns : goal.returns
returns c = rw (hex_some c.args.bytes.now (eqb-false _ 0 (sym c.if-is_empty.ensures))) c.put_pairs.ensures
