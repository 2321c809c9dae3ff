-- `put_spoiled` asks whether all is untouched, as the definition does.
use mathlib.Core.Path.{sym, ◌∙◌}
use Rattle.script_text.specs.Texts.{spoiled_by}
use Rattle.script_text.proofs.Puts.{puts_none}
use Rattle.script_text.proofs.put_spoiled.Goals as goal

pub returns-then-all_are : goal.returns-then-all_are
unfolding spoiled_by
returns-then-all_are c =
    let a = c.args in
    rw (sym c.all_are.ensures ∙ c.if-all_are.true) (puts_none a.out.now a.at)

pub returns : goal.returns
unfolding spoiled_by
returns c =
    rw (sym c.all_are.ensures ∙ c.if-all_are.false) c.put.ensures
