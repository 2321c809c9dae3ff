-- `print_product` writes a part of the product: what stands before its first 00h fits.
use Rattle.std.proofs.Common.{◌≤◌, length, sym}
use lib.Seq.{length-take-le}
use Rattle.sdap.proofs.Texts.{text_fits}
use Rattle.advert.proofs.print_product.Goals as goal

pub slice_bounds-product-end : goal.slice_bounds-product-end
slice_bounds-product-end g c = rw c.text_length-n.ensures (text_fits c.args.product)

pub slice_bounds-write_all-end-2 : goal.slice_bounds-write_all-end-2
slice_bounds-write_all-end-2 g c =
    let n = c.text_length-n.result in
    let t = c.args.product in
    let h : n ≤ length t = rw c.text_length-n.ensures (text_fits t) in
    sym (length-take-le n t h)
