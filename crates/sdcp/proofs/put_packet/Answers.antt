-- `put_packet` lays the three parts of the packet one behind the other.
use Rattle.sdcp.proofs.Packets.{sends}
use Rattle.sdcp.proofs.put_packet.Goals as goal

pub returns : goal.returns
returns c =
    let x = c in
    let a = x.args in
    sends a.m.now a.code c.bytes2.result a.body.now a.area.now c.lay.new.out c.lay-2.new.out c.lay-3.new.out x.requires.0 x.requires.1 x.requires.2
    c.bytes2.ensures c.lay.ensures c.lay-2.ensures c.lay-3.ensures
