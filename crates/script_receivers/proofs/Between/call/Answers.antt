-- `call` hands on what the receiver hands out, with what is left of the piece and of the area.
use native.Mathlib.Omega.{arith}
use Prim.Native.Nat.{ℕ, ◌+◌, ◌-◌, ◌≤◌}
use mathlib.Core.List.{List}
use lib.ListN.{length, take, drop}
use Rattle.script_text.specs.Puts.{Puts}
use Rattle.script_text.proofs.Puts.{puts_end}
use Rattle.script_text.proofs.Behind.{puts_behind}
use Rattle.script_receivers.proofs.Calls.{call_inside, call_last, call_more}
use Rattle.script_receivers.proofs.Between.call.Goals as goal

-- a text put into what is left of an area ends in it
ends : {t e : List ℕ} {r : ℕ} (d : List ℕ) (n : ℕ) → n ≤ length d → Puts t (take (length d - n) (drop n d)) 0 e r → n + r ≤ length d
ends d n h p = puts_end (puts_behind d n h p) h

pub overflow_add-self : goal.overflow_add-self
overflow_add-self c =
    let h = call_inside 0 c.args.piece.now c.args.self.now c.args.piece.now c.args.out.now c.take_piece-g.ensures c.requires.1 in
    omega (arith, h)

pub returns-in_default : goal.returns-in_default
returns-in_default c = call_last c.args.link _ c.args.self.now c.args.piece.now c.args.out.now c.take_piece-g.ensures c.in_default.is

pub overflow_add-self-2 : goal.overflow_add-self-2
overflow_add-self-2 c =
    let h = ends c.args.out.now c.args.self.now.len c.requires.2 c.say_packet-a.ensures.text_is in
    omega (arith, h)

pub returns : goal.returns
returns c =
    call_more c.args.link _ c.args.self.now c.args.piece.now c.args.out.now c.take_piece-g.ensures c.in-Some.n c.in-Some.is c.requires.2 c.say_packet-a.ensures
