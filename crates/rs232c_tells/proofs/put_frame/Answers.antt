-- `put_frame` lays head, block and checksum one behind the other; the last byte makes the sum 0 modulo 256.
use Prim.Native.Nat.{ℕ, ◌+◌, ◌-◌, ◌%◌, ◌<◌, ◌≤◌}
use mathlib.Core.Path.{◌≡◌, refl, ap, ◌∙◌}
use mathlib.Core.List.{List, [], ◌∷◌}
use lib.ListN.{length}
use native.Mathlib.Omega.{arith}
use Rattle.laws.specs.Bytes.{laid, Sent}
use Rattle.laws.proofs.Areas.{laid_first, laid_more, over_front}
use Rattle.sums.specs.Sums.{sum_of}
use Rattle.rs232c_tells.specs.Texts.{frame_of}
use Rattle.rs232c_tells.proofs.put_frame.Goals as goal

-- what takes the sum to 0 modulo 256 is what the frame closes with
closes : (n to s a t k : ℕ) → k < 256 → (k + (a + t) % 256) % 256 ≡ 0 → a ≡ (2 + n + (to + (1 + 0))) % 256 → t ≡ s % 256 → k ≡ (256 - (2 + n + (to + (1 + s))) % 256) % 256
closes n to s a t k h e p q = omega arith

-- k closes the frame, and x, y, z are the area after each part
framed : (to : ℕ) (b area x y z : List ℕ) (k : ℕ) → k ≡ (256 - (2 + length b + (to + (1 + sum_of b))) % 256) % 256 → length b ≤ 8 → 13 ≤ length area
    → x ≡ laid area 0 (2 ∷ (2 + length b) ∷ to ∷ 1 ∷ []) → y ≡ laid x 4 b
    → z ≡ laid y (4 + length b) (k ∷ []) → Sent (frame_of to b) (5 + length b) area z
unfolding frame_of sum_of
framed to b area x y z k e short room p q r =
    let l₁ = laid_first x (2 ∷ (2 + length b) ∷ to ∷ 1 ∷ []) 4 4 p refl refl (omega arith) in
    let l₂ = laid_more y b (length b) (4 + length b) l₁ q refl refl (omega arith) in
    let f = r ∙ ap (λ (x : ℕ). laid y (4 + length b) (x ∷ [])) e in
    let l₃ = laid_more z (((256 - (2 + length b + (to + (1 + sum_of b))) % 256) % 256) ∷ []) 1 (5 + length b) l₂ f refl (omega arith) (omega arith) in
    let end = l₃.end in
    record { length_is = omega arith; area_is = l₃.is ∙ over_front area (frame_of to b) }

pub returns : goal.returns
unfolding sum_of
returns c =
    let a = c.args in
    let b = a.block.now in
    let r = c.requires in
    let k = closes (length b) a.to (sum_of b) c.sum_of.result c.sum_of-2.result c.wrapping_neg.result c.wrapping_neg.type_inv c.wrapping_neg.ensures c.sum_of.ensures c.sum_of-2.ensures in
    framed a.to b a.area.now c.lay.new.out c.lay-2.new.out c.lay-3.new.out c.wrapping_neg.result k r.block_len_bound r.in_bounds c.lay.ensures c.lay-2.ensures c.lay-3.ensures
