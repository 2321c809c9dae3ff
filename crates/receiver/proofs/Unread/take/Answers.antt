-- `take` drops the noise, asks what stands whole behind it, and holds all or hands that out and holds on what is held behind.
use native.Mathlib.Omega.{arith}
use mathlib.Core.Path.{◌≡◌, sym, ap, ◌∙◌}
use mathlib.Core.List.{append-nil}
use Prim.Native.Nat.{◌+◌, ◌-◌}
use lib.ListN.{length, drop, length-drop, length-append}
use lib.Seq.{length-take-le}
use Rattle.laws.specs.Bytes.{sent}
use Rattle.receiver.specs.Calls.{holding}
use Rattle.receiver.specs.Both.{both}
use Rattle.receiver.proofs.Stream.{noise_le}
use Rattle.receiver.proofs.Taking.{left_fits, packet_fits, takes_none, takes_some}
use Rattle.receiver.proofs.Unread.take.Goals as goal

pub behind-left-requires : goal.behind-left-requires
behind-left-requires c = omega (arith, c.noise.ensures, noise_le (both c.args.self))

pub kept-requires : goal.kept-requires
kept-requires c = left_fits (both c.behind-left.result) (sym c.in_default.is ∙ c.whole.ensures)

pub returns-in_default : goal.returns-in_default
returns-in_default c =
    let s = c.args.self in
    takes_none s.held.now s.piece.now c.args.packet.now c.noise.result _ c.kept.result c.noise.ensures c.behind-left.ensures.both (sym c.in_default.is ∙ c.whole.ensures) c.kept.ensures

pub front-requires : goal.front-requires
front-requires c = (packet_fits (both c.behind-left.result) _ (sym c.in-Some.is ∙ c.whole.ensures)).2

pub lay-requires : goal.lay-requires
lay-requires c =
    let w = packet_fits (both c.behind-left.result) _ (sym c.in-Some.is ∙ c.whole.ensures) in
    omega (arith, ap length c.front.ensures, length-take-le c.in-Some.n (both c.behind-left.result) w.2, w.1, c.requires.1)

pub behind-rest-requires : goal.behind-rest-requires
behind-rest-requires c = (packet_fits (both c.behind-left.result) _ (sym c.in-Some.is ∙ c.whole.ensures)).2

pub returns : goal.returns
returns c =
    let s = c.args.self in
    let l = c.behind-left in
    let r = c.behind-rest in
    let n = c.in-Some.n in
    let w = packet_fits (both l.result) n (sym c.in-Some.is ∙ c.whole.ensures) in
    let k : length s.piece.now - length r.result.piece.now ≡ c.noise.result + n - length s.held.now =
    omega (
      arith,
      w.2,
      ap length r.ensures.piece,
      ap length l.ensures.piece,
      ap length l.ensures.held,
      ap length l.ensures.both,
      length-drop c.noise.result s.held.now,
      length-drop (c.noise.result - length s.held.now) s.piece.now,
      length-drop (n - length l.result.held.now) l.result.piece.now,
      length-drop c.noise.result (both s),
      length-append s.held.now s.piece.now,
    ) in
    takes_some s.held.now s.piece.now c.args.packet.now c.noise.result _ c.kept-2.result c.noise.ensures l.ensures.both n _ c.lay.new.area
    (sym c.in-Some.is ∙ c.whole.ensures) (c.lay.ensures ∙ ap (λ (v : _). sent v c.args.packet.now) c.front.ensures)
    (c.kept-2.ensures ∙ ap holding (append-nil r.result.held.now ∙ r.ensures.held ∙ ap (drop n) l.ensures.held)) k
