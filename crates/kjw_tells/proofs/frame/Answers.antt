-- `frame` lays the letters and the parameters behind the type, each where the last ended.
use mathlib.Core.Path.{◌≡◌, refl, sym, ap, ◌∙◌}
use mathlib.Core.List.{◌∷◌}
use lib.ListN.{length, length-append, drop, replicate}
use Rattle.std.proofs.Common.{append_assoc}
use borrow.Author.Rules.{rules}
use borrow.Rule.Slice.PartMut.{put_mid}
use native.Mathlib.Omega.{arith}
use Rattle.laws.proofs.Areas.{laid_first, laid_more}
use Rattle.laws.proofs.Library.{laid_copied}
use Rattle.kjw_asks.specs.Frames.{frame_of}
use Rattle.kjw_tells.proofs.frame.Goals as goal

pub returns : goal.returns
unfolding frame_of
returns c =
    let a = c.args in
    let d = 42 ∷ 83 ∷ a.kind ∷ replicate 21 10 in
    let l : length a.letters ≡ 4 = search rules in
    let q : length a.p ≡ 16 = search rules in
    let v = c.copy_from_slice-2.new.self in
    let w = c.copy_from_slice-3.new.self in
    let e = put_mid 3 4 d v in
    let one = laid_copied d 3 4 a.letters v (omega arith) (sym l) c.copy_from_slice-2.ensures.after in
    let l₁ = laid_first e a.letters 4 7 one l refl (omega arith) in
    let n : length e ≡ 24 = ap length l₁.is ∙ simp l (rw (length-append a.letters (drop 7 d), l)) in
    let two = laid_copied e 7 16 a.p w (omega arith) (sym q) c.copy_from_slice-3.ensures.after in
    let l₂ = laid_more (put_mid 7 16 e w) a.p 16 23 l₁ two q refl (omega arith) in
    rw c.copy_from_slice.ensures.after (l₂.is ∙ rw (l₂.end, append_assoc))
