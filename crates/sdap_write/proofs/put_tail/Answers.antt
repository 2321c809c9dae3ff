-- `put_tail` lays its four fields one behind the other.
use mathlib.Core.Path.{refl}
use mathlib.Core.List.{[], ◌∷◌}
use native.Mathlib.Omega.{arith}
use Rattle.laws.specs.Numbers.{in_bytes}
use Rattle.laws.proofs.Areas.{laid_first, laid_more}
use Rattle.laws.proofs.Numbers.{length_in_bytes}
use Rattle.sdap.proofs.Numbers.{laid_2}
use Rattle.sdap_write.proofs.put_tail.Goals as goal

pub returns : goal.returns
returns c =
    let f = c.args.f.now in
    let room = c.requires.in_bounds in
    let size = c.requires.sized in
    let error = laid_2 _ _ f.error c.lay.ensures c.to_be_bytes.ensures in
    let l1 = laid_first c.lay.new.out (in_bytes 2 f.error) 2 72 error (length_in_bytes 2 f.error) refl (omega arith) in
    let l2 = laid_more c.lay-2.new.out f.region.now 24 96 l1 c.lay-2.ensures size.region_ok refl (omega arith) in
    let l3 = laid_more c.lay-3.new.out f.name.now 24 120 l2 c.lay-3.ensures size.name_ok refl (omega arith) in
    (laid_more c.lay-4.new.out (f.group.0 ∷ f.unit.0 ∷ []) 2 122 l3 c.lay-4.ensures refl refl (omega arith)).is
