-- `answer_line` does what the order of the line does.
use mathlib.Core.Path.{◌≡◌, sym, subst}
use Prim.Native.Nat.{ℕ}
use mathlib.Core.List.{List}
use Rattle.script_lines.specs.Orders.{order_of}
use Rattle.script_lines.specs.declared.Order.{Order}
use Rattle.script.specs.Answers.{Leaves, carried_out, answered}
use Rattle.script.specs.declared.Held.{Held}
use Rattle.script.specs.Answers.{Left}
use Rattle.script.proofs.answer_line.Goals as goal

-- what the order of a line does is what the line does
by_order : (s : Held) (line : List ℕ) {o : Order} {area area' : List ℕ} {r : Left} → order_of line ≡ o → Leaves (carried_out o s line) r area area' → Leaves (answered s line) r area area'
unfolding answered
by_order s line {o} {area} {area'} {r} e h = subst (λ (x : Order). Leaves (carried_out x s line) r area area') (sym e) h

pub returns-in-OnBox : goal.returns-in-OnBox
unfolding carried_out
returns-in-OnBox c = by_order c.args.s c.args.line.now (sym c.in-OnBox.ensures) c.box_line.ensures

pub returns-in-Piece : goal.returns-in-Piece
unfolding carried_out
returns-in-Piece c = by_order c.args.s c.args.line.now (sym c.in-Piece.ensures) c.piece_line.ensures
