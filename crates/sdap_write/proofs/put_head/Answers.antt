-- `put_head` lays its five fields one behind the other.
use mathlib.Core.Path.{refl}
use mathlib.Core.List.{[], ◌∷◌}
use native.Mathlib.Omega.{arith}
use Rattle.laws.specs.Numbers.{in_bytes}
use Rattle.laws.proofs.Areas.{laid_first, laid_more}
use Rattle.laws.proofs.Numbers.{length_in_bytes}
use Rattle.sdap.proofs.Numbers.{laid_2, laid_4}
use Rattle.sdap_write.proofs.put_head.Goals as goal

pub returns : goal.returns
returns c =
    let f = c.args.f.now in
    let room = c.requires.in_bounds in
    let size = c.requires.sized in
    let number = laid_4 _ _ f.serial c.lay-3.ensures c.to_be_bytes.ensures in
    let power = laid_2 _ _ f.power c.lay-4.ensures c.to_be_bytes-2.ensures in
    let l1 = laid_first c.lay.new.out (68 ∷ 65 ∷ 4 ∷ f.category ∷ 83 ∷ 79 ∷ 78 ∷ 89 ∷ []) 8 8 c.lay.ensures refl refl (omega arith) in
    let l2 = laid_more c.lay-2.new.out f.product.now 12 20 l1 c.lay-2.ensures size.product_ok refl (omega arith) in
    let l3 = laid_more c.lay-3.new.out (in_bytes 4 f.serial) 4 24 l2 number (length_in_bytes 4 f.serial) refl (omega arith) in
    let l4 = laid_more c.lay-4.new.out (in_bytes 2 f.power) 2 26 l3 power (length_in_bytes 2 f.power) refl (omega arith) in
    (laid_more c.lay-5.new.out f.location.now 24 50 l4 c.lay-5.ensures size.location_ok refl (omega arith)).is
