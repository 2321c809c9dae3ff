-- `put_advert` lays the three stretches one behind the other, from the front.
use Prim.Native.Nat.{ℕ, ◌+◌}
use mathlib.Core.Path.{refl, ap, ◌∙◌}
use mathlib.Core.List.{◌++◌}
use native.Mathlib.Omega.{arith}
use Rattle.laws.proofs.Areas.{Laid, laid_next, over_front}
use Rattle.sdap.specs.Layout.{lent_of, head_of, addresses_of, tail_of, bytes_of}
use Rattle.sdap.proofs.Lengths.{head_length, addresses_length, tail_length}
use Rattle.sdap_write.proofs.put_advert.Goals as goal

pub returns : goal.returns
unfolding bytes_of
returns c =
    let a = lent_of c.args.f.now in
    let d = c.args.out.now in
    let room = c.requires.in_bounds in
    let s = c.requires.sized in
    let h = head_length a s.product_ok s.location_ok in
    let t = tail_length a s.region_ok s.name_ok in
    let l1 : Laid d c.put_head.new.out 0 (head_of a) 50 = record { is = c.put_head.ensures; end = ap (λ (k : ℕ). 0 + k) h } in
    let l2 = laid_next c.put_addresses.new.out (addresses_of a) 20 70 l1 c.put_addresses.ensures (addresses_length a) refl (omega arith) in
    let l3 = laid_next c.put_tail.new.out (tail_of a) 52 122 l2 c.put_tail.ensures t refl (omega arith) in
    l3.is ∙ over_front d (head_of a ++ addresses_of a ++ tail_of a)
