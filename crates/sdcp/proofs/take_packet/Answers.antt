-- `take_packet` asks the area's size, then goes by what the packet asks; each case is the definition's.
use Prim.Native.Nat.{ℕ}
use mathlib.Core.Path.{◌≡◌, refl, sym, ap, subst, ◌∙◌}
use mathlib.Core.List.{List}
use native.Mathlib.Omega.{arith}
use Rattle.std.specs.Prelude.{Err}
use Rattle.laws.specs.Bytes.{Sent}
use Rattle.turns.proofs.Turns.{takes_small, takes_turn}
use Rattle.panels.specs.declared.WRecord.{WRecord}
use Rattle.vmc_tells.specs.declared.Says.{Says}
use Rattle.sdcp_asks.specs.Asks.{heard_of, Heard}
use Rattle.sdcp.specs.Replies.{bytes_of, turned, turn_of}
use Rattle.sdcp.specs.declared.Reply.TheVariants.{Ok as OkWith}
use Rattle.sdcp.proofs.Packets.{Long, heard_long}
use Rattle.sdcp.proofs.take_packet.Goals as goal

asked : (m : List ℕ) (w : WRecord) (a h : Heard) → a ≡ heard_of m → a ≡ h → turn_of m w ≡ turned m h w
asked m w a h e f = ap (λ (x : Heard). turned m x w) (sym e ∙ f)

long : (m : List ℕ) (a h : Heard) → a ≡ heard_of m → a ≡ h → Long m h
long m a h e f = subst (Long m) (sym e ∙ f) (heard_long m)

pub returns-then-area-lt512 : goal.returns-then-area-lt512
returns-then-area-lt512 c =
    let a = c.args in
    let r = c.refused.ensures in
    rw (r.after, r.answer, r.len) (takes_small (turn_of a.m.now) a.w a.area.now c.if-area-lt512.true)

pub put_packet-requires : goal.put_packet-requires
put_packet-requires c = (long c.args.m.now c.hear.result _ c.hear.ensures (c.in-Err-Broken.is ∙ ap Err c.in-Err-Broken.field-0-is), omega arith, c.if-area-lt512.false)

pub put_ok-requires : goal.put_ok-requires
put_ok-requires c = (long c.args.m.now c.hear.result _ c.hear.ensures (c.in-Err-NotUnderstood.is ∙ ap Err c.in-Err-NotUnderstood.field-0-is), c.if-area-lt512.false)

pub put_ok-requires-in-Ok : goal.put_ok-requires-in-Ok
put_ok-requires-in-Ok c = (long c.args.m.now c.hear.result _ c.hear.ensures c.in-Ok.is, c.if-area-lt512.false)

pub returns-in-Err-Refused : goal.returns-in-Err-Refused
unfolding turned
returns-in-Err-Refused c =
    let a = c.args in
    let r = c.refused-in-Err-Refused.ensures in
    takes_turn (turn_of a.m.now) a.w a.area.now _ _ _ _ _ c.if-area-lt512.false
    (asked a.m.now a.w c.hear.result _ c.hear.ensures (c.in-Err-Refused.is ∙ ap Err c.in-Err-Refused.field-0-is)) r.after r.answer (record { length_is = r.len; area_is = refl })

pub returns-in-Err-Broken : goal.returns-in-Err-Broken
unfolding turned bytes_of
returns-in-Err-Broken c =
    let a = c.args in
    takes_turn (turn_of a.m.now) a.w a.area.now _ _ _ _ _ c.if-area-lt512.false
    (asked a.m.now a.w c.hear.result _ c.hear.ensures (c.in-Err-Broken.is ∙ ap Err c.in-Err-Broken.field-0-is)) refl refl c.put_packet.ensures

pub returns-in-Err-NotUnderstood : goal.returns-in-Err-NotUnderstood
unfolding turned
returns-in-Err-NotUnderstood c =
    let a = c.args in
    takes_turn (turn_of a.m.now) a.w a.area.now _ _ _ _ _ c.if-area-lt512.false
    (asked a.m.now a.w c.hear.result _ c.hear.ensures (c.in-Err-NotUnderstood.is ∙ ap Err c.in-Err-NotUnderstood.field-0-is)) refl refl c.put_ok.ensures

pub returns-in-Ok : goal.returns-in-Ok
unfolding turned
returns-in-Ok c =
    let a = c.args in
    takes_turn (turn_of a.m.now) a.w a.area.now _ _ _ _ _ c.if-area-lt512.false
    (asked a.m.now a.w c.hear.result _ c.hear.ensures c.in-Ok.is) c.obey.ensures refl
    (subst (λ (t : Says). Sent (bytes_of a.m.now (OkWith t)) c.put_ok-in-Ok.result a.area.now c.put_ok-in-Ok.new.area)
    c.tell.ensures c.put_ok-in-Ok.ensures)
