-- `take_frame` asks the area's size, then goes by what the message asks; each case is the definition's.
use mathlib.Core.Path.{sym, ◌∙◌}
use Rattle.rs232c.proofs.Doors.{small, refused, obeyed, unheard}
use Rattle.rs232c.proofs.take_frame.Goals as goal

pub returns-then-area-lt512 : goal.returns-then-area-lt512
returns-then-area-lt512 c = let r = c.refused.ensures in small _ _ _ _ _ _ c.if-area-lt512.true r.after r.answer r.len

pub returns-in-Err : goal.returns-in-Err
returns-in-Err c = let r = c.refused-in-Err.ensures in refused _ _ _ c.if-area-lt512.false _ _ _ _ (sym c.hear.ensures ∙ c.in-Err.is) r.after r.answer r.len

pub returns-in-Ok-order : goal.returns-in-Ok-order
returns-in-Ok-order c =
    obeyed _ _ _ c.if-area-lt512.false _ (sym c.hear.ensures ∙ c.in-Ok.is) _ _ _ _ _ c.in-Ok-order.is c.carry.ensures c.reply_to.ensures c.send.ensures

pub returns-in-Err-order : goal.returns-in-Err-order
returns-in-Err-order c =
    unheard _ _ _ c.if-area-lt512.false _ (sym c.hear.ensures ∙ c.in-Ok.is) _ _ _ c.in-Err-order.is c.send-in-Err-order.ensures
