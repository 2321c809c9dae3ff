-- `take_frame` refuses an area that is too small, and else does what was heard and sends what the turn says.
use Prim.Native.Nat.{ℕ, ◌≤◌}
use mathlib.Core.Path.{◌≡◌, refl}
use mathlib.Core.List.{List}
use native.Mathlib.Omega.{arith}
use lib.ListN.{length}
use Rattle.std.specs.Prelude.{Result}
use Rattle.kjw_asks.specs.Frames.{letters_of}
use Rattle.kjw_asks.specs.Asks.{heard_of}
use Rattle.kjw.specs.Replies.{decided, turned, turn_of}
use Rattle.panels.specs.declared.KRecord.{KRecord}
use Rattle.kjw_sets.specs.declared.Order.{Order}
use Rattle.kjw_asks.specs.declared.Fault.{Fault}
use Rattle.kjw.specs.declared.Decided.{Decided}
use Rattle.kjw_tells.specs.Texts.{bytes_of}
use Rattle.kjw_tells.proofs.Lengths.{fits}
use Rattle.turns.proofs.Turns.{takes_turn}
use Rattle.kjw.proofs.take_frame.Goals as goal

asked : (k : KRecord) (m l : List ℕ) (h : Result Order Fault) (t : Decided) → l ≡ letters_of m → h ≡ heard_of m → t ≡ decided k h → turn_of m k ≡ turned l t
unfolding turn_of
asked k m l h t el eh et = rw (← eh, ← et, ← el)

pub returns : goal.returns
returns c =
    let a = c.args in
    let room : 512 ≤ length a.area.now = omega arith in
    let l = c.letters_of in
    let h = c.hear in
    let t = c.decide-turn in
    let sends = rw (fits (length a.area.now) (bytes_of t.result.reply t.result.k l.result) (omega (arith, room))) at c.send-len.ensures in
    takes_turn (turn_of a.m.now) a.k a.area.now _ _ _ _ _ room (asked a.k a.m.now l.result h.result t.result l.ensures h.ensures t.ensures) refl refl sends
