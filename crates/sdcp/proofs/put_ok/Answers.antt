-- `put_ok` hands on the words of what is told.
use mathlib.Core.Path.{◌≡◌, ap, subst, ◌∙◌}
use mathlib.Core.List.{List}
use Prim.Native.Nat.{ℕ}
use lib.ListN.{length}
use borrow.Author.Rules.{rules}
use native.Mathlib.Omega.{arith}
use Rattle.laws.specs.Bytes.{Sent}
use Rattle.decimals.proofs.Texts.{text_slice}
use Rattle.vmc_tells.specs.Texts.{text_of}
use Rattle.vmc_tells.proofs.Phrases.{text_fits}
use Rattle.sdcp.specs.Replies.{packet_of, bytes_of}
use Rattle.sdcp.proofs.put_ok.Goals as goal

pub put_packet-requires : goal.put_packet-requires
put_packet-requires c =
    let t = c.spell in
    let w = text_of c.args.told in
    let l : length t.result.bytes ≡ 20 = search rules in
    let e : length c.as_slice.result.now ≡ length w = ap length (c.as_slice.ensures ∙ text_slice t.result w t.ensures) in
    let h = text_fits w t.result t.ensures l in
    (c.requires.0, omega (arith, e, h), c.requires.1)

pub returns : goal.returns
unfolding bytes_of
returns c =
    let t = c.spell in
    let a = c.args in
    subst (λ (b : List ℕ). Sent (packet_of a.m.now 1 b) c.put_packet.result a.area.now c.put_packet.new.area)
    (c.as_slice.ensures ∙ text_slice t.result (text_of a.told) t.ensures) c.put_packet.ensures
