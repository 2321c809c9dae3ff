-- `put_panel` asks the family, as the definition does.
use borrow.Author.Tests.{eq-eqb, ne_eqb}
use Rattle.panels.specs.Records.{family_w}
use Rattle.script_show.specs.Shown.{panel_text}
use Rattle.script_show.proofs.put_panel.Goals as goal

pub returns-then-p-eq87 : goal.returns-then-p-eq87
unfolding panel_text
returns-then-p-eq87 c =
    let t = c in
    rw (eq-eqb t.args.p.family family_w t.if-p-eq87.true) c.put_w.ensures

pub returns : goal.returns
unfolding panel_text
returns c =
    let t = c in
    rw (ne_eqb t.args.p.family family_w t.if-p-eq87.false) c.put_k.ensures
