-- `put_addresses` lays its five numbers one behind the other.
use mathlib.Core.Path.{refl}
use lib.ListN.{get_or}
use native.Mathlib.Omega.{arith}
use Rattle.laws.specs.Numbers.{in_bytes}
use Rattle.laws.proofs.Areas.{laid_first}
use Rattle.laws.proofs.Numbers.{length_in_bytes}
use Rattle.sdap.proofs.Numbers.{laid_4, more_4}
use Rattle.sdap_write.proofs.put_addresses.Goals as goal

pub returns : goal.returns
returns c =
    let v = c.args.f.now.connected in
    let ip = c.args.f.now.accepted in
    let room = c.requires in
    let l1 = laid_first c.lay.new.out (in_bytes 4 v) 4 54 (laid_4 _ _ v c.lay.ensures c.to_be_bytes.ensures) (length_in_bytes 4 v) refl (omega arith) in
    let l2 = more_4 c.lay-2.new.out (get_or ip 0 0) 58 l1 c.lay-2.ensures c.to_be_bytes-2.ensures refl (omega arith) in
    let l3 = more_4 c.lay-3.new.out (get_or ip 1 0) 62 l2 c.lay-3.ensures c.to_be_bytes-3.ensures refl (omega arith) in
    let l4 = more_4 c.lay-4.new.out (get_or ip 2 0) 66 l3 c.lay-4.ensures c.to_be_bytes-4.ensures refl (omega arith) in
    (more_4 c.lay-5.new.out (get_or ip 3 0) 70 l4 c.lay-5.ensures c.to_be_bytes-5.ensures refl (omega arith)).is
