-- `answer_order` does what the order does.
use Prim.Native.Nat.{ℕ}
use mathlib.Core.Path.{◌≡◌, refl, sym, subst}
use mathlib.Core.List.{List}
use Rattle.panels.specs.declared.DisplayBox.{DisplayBox}
use Rattle.script_lines.specs.declared.BoxOrder.{BoxOrder}
use Rattle.script_text.proofs.Puts.{puts_none}
use Rattle.script_answers.specs.Answers.{Answers}
use Rattle.script_answers.specs.declared.Answered.{Answered}
use Rattle.script_orders.specs.Orders.{ordered}
use Rattle.script_orders.proofs.answer_order.Goals as goal

-- the order that is matched is the one given
by_order : (b : DisplayBox) (line : List ℕ) {o o' : BoxOrder} {area area' : List ℕ} {r : Answered DisplayBox} → o ≡ o'
    → Answers (ordered o' b line) r area area' → Answers (ordered o b line) r area area'
by_order b line {o} {o'} {area} {area'} {r} e h = subst (λ (x : BoxOrder). Answers (ordered x b line) r area area') (sym e) h

pub returns-in-Passed : goal.returns-in-Passed
unfolding ordered
returns-in-Passed c =
    let a = c.args in
    by_order a.b a.line.now c.in-Passed.is (record { box_is = refl; text_is = puts_none a.out.now 0 })

pub returns-in-Unread : goal.returns-in-Unread
unfolding ordered
returns-in-Unread c = let a = c.args in by_order a.b a.line.now c.in-Unread.is c.say.ensures

pub returns-in-Box : goal.returns-in-Box
unfolding ordered
returns-in-Box c = let a = c.args in by_order a.b a.line.now c.in-Box.is c.answer_box.ensures

pub returns-in-Rs232 : goal.returns-in-Rs232
unfolding ordered
returns-in-Rs232 c = let a = c.args in by_order a.b a.line.now c.in-Rs232.is c.answer_message.ensures

pub returns-in-Kjw : goal.returns-in-Kjw
unfolding ordered
returns-in-Kjw c = let a = c.args in by_order a.b a.line.now c.in-Kjw.is c.answer_message-in-Kjw.ensures

pub returns-in-Tcp : goal.returns-in-Tcp
unfolding ordered
returns-in-Tcp c = let a = c.args in by_order a.b a.line.now c.in-Tcp.is c.answer_message-in-Tcp.ensures

pub returns-in-Udp : goal.returns-in-Udp
unfolding ordered
returns-in-Udp c = let a = c.args in by_order a.b a.line.now c.in-Udp.is c.answer_udp.ensures

pub returns-in-Show : goal.returns-in-Show
unfolding ordered
returns-in-Show c = let a = c.args in by_order a.b a.line.now c.in-Show.is c.answer_show.ensures

pub returns-in-Advert : goal.returns-in-Advert
unfolding ordered
returns-in-Advert c = let a = c.args in by_order a.b a.line.now c.in-Advert.is c.answer_advert.ensures

pub returns-in-Write : goal.returns-in-Write
unfolding ordered
returns-in-Write c = let a = c.args in by_order a.b a.line.now c.in-Write.is c.answer_write.ensures

pub returns-in-Sum : goal.returns-in-Sum
unfolding ordered
returns-in-Sum c = let a = c.args in by_order a.b a.line.now c.in-Sum.is c.answer_sum.ensures

pub returns-in-Plain : goal.returns-in-Plain
unfolding ordered
returns-in-Plain c = let a = c.args in by_order a.b a.line.now c.in-Plain.is c.answer_plain.ensures
