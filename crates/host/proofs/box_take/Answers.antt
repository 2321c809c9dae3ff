-- `box_take` stores what was done; what was not done has the box that lies there already.
use mathlib.Core.Path.{sym, ap, ◌∙◌}
use Rattle.host_box.specs.declared.Outcome.{Outcome as Held}
use Rattle.host_box.proofs.Host.{undone_keeps}
use Rattle.host.specs.declared.Outcome.{Outcome}
use Rattle.host.proofs.box_take.Goals as goal

abbrev outcome_of : Held → Outcome
outcome_of t = record { answer = t.answer; place = t.place; len = t.len }

pub returns-else-t : goal.returns-else-t
returns-else-t c =
    let a = c.args in
    let e = c.take_message-t.ensures in
    let kept = undone_keeps a.b.now a.way a.link a.m.now a.area.now c.take_message-t.result e.0 c.if-t.false in
    (sym kept ∙ ap (λ (t : Held). t.after) e.0, (ap outcome_of e.0, e.1))
