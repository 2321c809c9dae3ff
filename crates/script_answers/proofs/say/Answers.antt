-- `say` puts its text and ends it.
use Rattle.script_text.proofs.Puts.{puts_then}
use Rattle.script_answers.specs.Answers.{writes}
use Rattle.script_answers.proofs.say.Goals as goal

pub returns : goal.returns
unfolding writes
returns c =
    let e = c.ended.ensures in
    record { box_is = e.box_is; text_is = puts_then c.put-at.ensures e.text_is }
