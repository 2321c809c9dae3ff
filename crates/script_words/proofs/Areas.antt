-- Bytes laid over the front of an area, one more or three more a turn.
use Prim.Native.Nat.{◌+◌, ◌<◌, ℕ}
use mathlib.Core.List.{List}
use mathlib.Core.Path.{◌∙◌, ◌≡◌, ap, sym}
use native.Mathlib.Nat.{zero-add}
use native.Mathlib.Omega.{arith}
use lib.ListN.{get_or, length, set}
use lib.Seq.{paste}
use Rattle.laws.proofs.Areas.{over_front, paste_more, paste_whole}
use Rattle.laws.specs.Bytes.{Sent}

pub front_more : (d s : List ℕ) (i v : ℕ) (o : List ℕ) → i < length d → i < length s → v ≡ get_or s i 0 → o ≡ paste d 0 s i → set o i v ≡ paste d 0 s (i + 1)
front_more d s i v o h l q e = rw q (ap (λ (j : ℕ). set o j (get_or s i 0)) (sym (zero-add i)) ∙ paste_more d 0 s i o (omega arith) l e)

pub front_whole : (d s : List ℕ) (i : ℕ) (o : List ℕ) → i ≡ length s → o ≡ paste d 0 s i → Sent s i d o
front_whole d s i o q e = record {
  length_is = q;
  area_is = paste_whole d 0 s i o (omega arith) (omega arith) e ∙ over_front d s;
}

pub front_three : (d s : List ℕ) (k x y z : ℕ) (o : List ℕ) → k + 2 < length d → k + 2 < length s → x ≡ get_or s k 0 → y ≡ get_or s (k + 1) 0 → z ≡ get_or s (k + 2) 0 → o ≡ paste d 0 s k → set (set (set o k x) (k + 1) y) (k + 2) z ≡ paste d 0 s (k + 3)
front_three d s k x y z o h l p q r e =
    let two : k + 2 ≡ k + 1 + 1 = omega arith in
    let three : k + 1 + 1 + 1 ≡ k + 3 = omega arith in
    let a = front_more d s k x o (omega arith) (omega arith) p e in
    let b = front_more d s (k + 1) y (set o k x) (omega arith) (omega arith) q a in
    ap (λ (j : ℕ). set (set (set o k x) (k + 1) y) j z) two
    ∙ front_more d s (k + 1 + 1) z (set (set o k x) (k + 1) y) (omega arith) (omega arith) (r ∙ ap (λ (j : ℕ). get_or s j 0) two) b
    ∙ ap (λ (j : ℕ). paste d 0 s j) three
