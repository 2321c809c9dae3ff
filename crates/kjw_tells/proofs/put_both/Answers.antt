-- `put_both` lays the notice behind the answer.
use mathlib.Core.Path.{◌≡◌, refl, sym, ap, ◌∙◌}
use mathlib.Core.List.{◌++◌}
use lib.ListN.{length, length-append}
use borrow.Author.Rules.{rules}
use native.Mathlib.Omega.{arith}
use Rattle.laws.specs.Bytes.{laid}
use Rattle.laws.proofs.Areas.{laid_first, laid_more, over_front}
use Rattle.kjw_asks.specs.Frames.{frame_of}
use Rattle.kjw_tells.specs.Texts.{accepted, bytes_of}
use Rattle.kjw_tells.proofs.Lengths.{frame_length}
use Rattle.kjw_tells.proofs.put_both.Goals as goal

pub returns : goal.returns
unfolding bytes_of
returns c =
    let a = c.args in
    let name = c.letters.result in
    let value = c.value_of.result in
    let l : length a.letters ≡ 4 = search rules in
    let n : length name ≡ 4 = search rules in
    let v : length value ≡ 16 = search rules in
    let f = frame_of 0x41 a.letters accepted in
    let g = frame_of 0x4e name value in
    let first = frame_length 0x41 a.letters accepted l refl in
    let second = frame_length 0x4e name value n v in
    let room = c.requires in
    let l₁ = laid_first c.lay.new.out f 24 24 (c.lay.ensures ∙ ap (laid a.area.now 0) c.frame.ensures) first refl (omega arith) in
    let l₂ = laid_more c.lay-2.new.out g 24 48 l₁ (c.lay-2.ensures ∙ ap (laid c.lay.new.out 24) c.frame-2.ensures) second refl (omega arith) in
    rw (← c.letters.ensures, ← c.value_of.ensures)
    (record { length_is = sym (length-append f g ∙ rw (first, second)); area_is = l₂.is ∙ over_front a.area.now (f ++ g) })
