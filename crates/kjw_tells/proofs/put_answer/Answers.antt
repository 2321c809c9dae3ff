-- `put_answer` lays one frame at the front.
use Prim.Native.Nat.{ℕ, ◌≤◌}
use mathlib.Core.Path.{◌≡◌, refl, sym, ap, ◌∙◌}
use mathlib.Core.List.{List}
use lib.ListN.{length}
use borrow.Author.Rules.{rules}
use native.Mathlib.Omega.{arith}
use Rattle.laws.specs.Bytes.{Sent, laid}
use Rattle.laws.proofs.Areas.{laid_first, over_front}
use Rattle.kjw_asks.specs.Frames.{frame_of, type_answer}
use Rattle.kjw_tells.proofs.Lengths.{frame_length}
use Rattle.kjw_tells.proofs.put_answer.Goals as goal

alone : (f l p area area' : List ℕ) → f ≡ frame_of type_answer l p → length l ≡ 4 → length p ≡ 16 → 48 ≤ length area → area' ≡ laid area 0 f
    → Sent (frame_of type_answer l p) 24 area area'
alone f l p area area' q e g room h =
    let n = frame_length type_answer l p e g in
    record { length_is = sym n; area_is = (laid_first area' (frame_of type_answer l p) 24 24 (h ∙ ap (laid area 0) q) n refl (omega arith)).is ∙ over_front area (frame_of type_answer l p) }

pub returns : goal.returns
returns c =
    let a = c.args in
    alone _ a.letters a.p a.area.now _ c.frame.ensures (search rules) (search rules) c.requires c.lay.ensures
