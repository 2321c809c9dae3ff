-- `say_answer` puts number and place, and ends the text.
use Rattle.script_text.proofs.Puts.{puts_then}
use Rattle.script_answers.specs.Answers.{writes}
use Rattle.script_answers.proofs.say_answer.Goals as goal

pub returns : goal.returns
unfolding writes
returns c =
    let e = c.ended.ensures in
    let text = rw (c.number.ensures, c.place.ensures) at c.put_placed-at.ensures in
    record { box_is = e.box_is; text_is = puts_then text e.text_is }
