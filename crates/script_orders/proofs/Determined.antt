-- The promise allows one outcome: it is a promise about one effect.
use mathlib.Core.List.{List}
use Rattle.panels.specs.declared.DisplayBox.{DisplayBox}
use Rattle.script_answers.specs.Answers.{Answers}
use Rattle.script_answers.specs.declared.Answered.{Answered}
use Rattle.script_answers.proofs.Determined.{Agree, answers_one}
use Rattle.script_lines.specs.declared.BoxOrder.{BoxOrder}
use Prim.Native.Nat.{ℕ}
use Rattle.script_orders.specs.Orders.{ordered}

pub answer_order_one : (o : BoxOrder) (b : DisplayBox) (line area : List ℕ) (r r' : Answered DisplayBox) (x x' : List ℕ) → Answers (ordered o b line) r area x → Answers (ordered o b line) r' area x' → Agree r r' x x'
answer_order_one o b line = answers_one (ordered o b line)
