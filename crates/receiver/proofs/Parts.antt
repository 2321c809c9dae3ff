-- What stands in the bytes held and then the piece, in two parts: the seam between them is at the end of the bytes held.
use Prim.Native.Nat.{ℕ, zero, suc, ◌+◌, ◌-◌, ◌≤◌, min}
use native.Mathlib.Omega.{arith}
use mathlib.Core.Path.{◌≡◌, refl, ap, ◌∙◌}
use mathlib.Core.List.{List, ◌++◌}
use lib.ListN.{length, take, drop, replicate}
use Rattle.std.proofs.lemmas.List.{drop_min}
use Rattle.laws.specs.Bytes.{laid, sent}
use Rattle.laws.proofs.Areas.{laid_first, laid_more, over_front}
use Rattle.laws.proofs.Lists.{rest}
use Rattle.receiver.specs.Calls.{padded}
use Rattle.receiver.proofs.Calls.{drop_both}

-- ---- two parts laid over an area, one behind the other

pub laid_both : (d a b x y : List ℕ) (n : ℕ) → n ≡ length a → n + length b ≤ length d → x ≡ laid d 0 a → y ≡ laid x n b → y ≡ sent (a ++ b) d
laid_both d a b x y n e h p q =
    let z : 0 + length a ≡ n = omega arith in
    let l₁ = laid_first {d = d} {n = 0} x a (length a) n p refl z (omega arith) in
    let l₂ = laid_more y b (length b) (n + length b) l₁ q refl refl (omega arith) in
    l₂.is ∙ over_front d (a ++ b)

drop_zeros : (n m : ℕ) → drop {A = ℕ} n (replicate m 0) ≡ replicate (m - n) 0
drop_zeros zero m = let e : m ≡ m - 0 = omega arith in ap (λ (k : ℕ). replicate {A = ℕ} k 0) e
drop_zeros (suc n) zero = let e : 0 ≡ 0 - suc n = omega arith in ap (λ (k : ℕ). replicate {A = ℕ} k 0) e
drop_zeros (suc n) (suc m) = let e : m - n ≡ suc m - suc n = omega arith in drop_zeros n m ∙ ap (λ (k : ℕ). replicate {A = ℕ} k 0) e

-- over 512 zeros, so zeros are left behind them
pub sent_zeros : (l : List ℕ) → sent l (replicate 512 0) ≡ padded l
sent_zeros l = ap (l ++◌) (drop_zeros (length l) 512)

-- ---- all but the first n of both: i of them are held

pub behind_both : (h p : List ℕ) (n i : ℕ) → i ≡ min n (length h) → take (length h - i) (drop i h) ++ take (length p - (n - i)) (drop (n - i) p) ≡ drop n (h ++ p)
behind_both h p n i e =
    let k : n - i ≡ n - length h = omega arith in
    rw (rest h i, rest p (n - i), k, e, drop_min n h) (drop_both h p n)
