-- Noise is passed over at once, and so is a packet that is whole.
use native.Mathlib.Omega.{arith}
use mathlib.Core.Path.{sym, ap, ◌∙◌}
use Prim.Native.Nat.{◌+◌}
use borrow.Author.Tests.{leb-true, leb-false}
use Rattle.receiver.proofs.Stream.{noise_le}
use Rattle.receiver.proofs.Taking.{none_whole, packet_fits}
use Rattle.reader.specs.Plain.{between}
use Rattle.reader.proofs.Rules.{rest_long, past_noise, first_is, none_left, tail_at, stop_at, note_at}
use Rattle.reader.proofs.+between_packets_in_packet.Goals as goal

pub between_packets-in_packet-requires : goal.between_packets-in_packet-requires
between_packets-in_packet-requires t c =
    let r = c.args.rest.now in
    let m = c.decreases in
    let j = c.noise_in-j.result in
    let h = c.if-j-rest.true in
    let e = rest_long r j in
    (omega (arith, m, h, e), (omega (arith, c.requires, h, e), omega (arith, h, e), first_is r j c.noise_in-j.ensures))

pub between_packets-returns-then-j-rest : goal.between_packets-returns-then-j-rest
between_packets-returns-then-j-rest t c =
    let a = c.args in
    past_noise a.at a.list.now _ a.rest.now c.noise_in-j.result c.noise_in-j.ensures c.in_packet.ensures

pub between_packets-overflow_add-at-else-j-rest : goal.between_packets-overflow_add-at-else-j-rest
between_packets-overflow_add-at-else-j-rest t c = omega (arith, c.requires, noise_le c.args.rest.now, c.noise_in-j.ensures)

pub between_packets-returns-else-j-rest : goal.between_packets-returns-else-j-rest
between_packets-returns-else-j-rest t c =
    let a = c.args in
    c.ends_at.ensures ∙ sym (none_left a.at a.list.now a.rest.now c.noise_in-j.result c.noise_in-j.ensures c.if-j-rest.false)

pub in_packet-returns-in_default : goal.in_packet-returns-in_default
in_packet-returns-in_default t c =
    let a = c.args in
    c.ends_at.ensures ∙ sym (tail_at a.at a.list.now a.rest.now c.requires.1 c.requires.2 (none_whole a.rest.now (sym c.in_default.is ∙ c.whole_in.ensures)))

pub in_packet-returns-then-is_full : goal.in_packet-returns-then-is_full
in_packet-returns-then-is_full t c =
    let a = c.args in
    let w = packet_fits a.rest.now c.in-Some.k (sym c.in-Some.is ∙ c.whole_in.ensures) in
    c.stops_at.ensures
    ∙ sym (stop_at a.at a.list.now a.rest.now c.requires.1 c.requires.2 c.in-Some.k w.0 w.3 (leb-true 64 a.list.now.count (sym c.is_full.ensures ∙ c.if-is_full.true)))

pub in_packet-slice_bounds-between_packets-count : goal.in_packet-slice_bounds-between_packets-count
in_packet-slice_bounds-between_packets-count t c = (packet_fits c.args.rest.now c.in-Some.k (sym c.in-Some.is ∙ c.whole_in.ensures)).2

pub in_packet-slice_bounds-between_packets-start : goal.in_packet-slice_bounds-between_packets-start
in_packet-slice_bounds-between_packets-start t c = (packet_fits c.args.rest.now c.in-Some.k (sym c.in-Some.is ∙ c.whole_in.ensures)).2

pub in_packet-overflow_add-at : goal.in_packet-overflow_add-at
in_packet-overflow_add-at t c = omega (arith, c.requires.0, (packet_fits c.args.rest.now c.in-Some.k (sym c.in-Some.is ∙ c.whole_in.ensures)).2)

pub in_packet-between_packets-requires : goal.in_packet-between_packets-requires
in_packet-between_packets-requires t c =
    let r = c.args.rest.now in
    let w = packet_fits r c.in-Some.k (sym c.in-Some.is ∙ c.whole_in.ensures) in
    let e = rest_long r c.in-Some.k in
    (omega (arith, c.decreases, w.2, w.3, e), omega (arith, c.requires.0, w.2, e))

pub in_packet-returns : goal.in_packet-returns
in_packet-returns t c =
    let a = c.args in
    let k = c.in-Some.k in
    let w = packet_fits a.rest.now k (sym c.in-Some.is ∙ c.whole_in.ensures) in
    note_at a.at a.list.now a.rest.now c.requires.1 c.requires.2 k _ w.0 w.3 (leb-false 64 a.list.now.count (sym c.is_full.ensures ∙ c.if-is_full.false))
    (c.between_packets.ensures ∙ ap (between _ (a.at + k)) c.note.ensures)
