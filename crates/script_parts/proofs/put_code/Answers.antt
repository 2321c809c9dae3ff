-- `put_code` asks the definition's one question.
use borrow.Author.Tests.{eq-eqb}
use Rattle.script_text.proofs.Puts.{puts_none}
use Rattle.script_parts.proofs.put_code.Goals as goal

pub returns-then-on-eq0 : goal.returns-then-on-eq0
returns-then-on-eq0 c =
    let a = c.args in
    rw (eq-eqb a.on 0 c.if-on-eq0.true) (puts_none a.out.now a.at)
