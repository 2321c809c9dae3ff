-- `is_box` asks for the kinds of as many panels as the line has words for.
use Rattle.std.proofs.Common.{ap, ◌∙◌, List}
use borrow.Author.Tests.{le-leb, lt-leb}
use Rattle.laws.specs.Bytes.{ascii}
use Rattle.script_words.specs.declared.Kind.{Kind}
use Rattle.script_lines.specs.Orders.{asks, asks_box}
use Rattle.script_lines.proofs.Configurations.{kinds_of}
use Rattle.script_lines.proofs.is_box.Goals as goal

pub returns-then-n-le16 : goal.returns-then-n-le16
unfolding asks_box
returns-then-n-le16 c =
    let n = c.panels_in-n.result in
    let e = c.as_flattened.ensures.value ∙ kinds_of n c.if-n-le16.true in
    rw (← c.panels_in-n.ensures, le-leb _ _ c.if-n-le16.true) (c.is_asked.ensures ∙ ap (λ (k : List Kind). asks (ascii "box") k c.args.line.now) e)

pub returns-else-n-le16 : goal.returns-else-n-le16
unfolding asks_box
returns-else-n-le16 c = rw (← c.panels_in-n.ensures, lt-leb _ _ c.if-n-le16.false)
