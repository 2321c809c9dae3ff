-- `rebalance` changes gains and biases, each place by what is said of it.
use Prim.Native.Nat.{ℕ, ◌+◌, ◌<◌}
use mathlib.Core.Path.{◌≡◌, sym, ap, ◌∙◌}
use mathlib.Core.List.{List}
use lib.IntN.{ℤ, pos}
use lib.ListN.{length, get_or, take, drop}
use lib.Seq.{get_or-take, get_or-drop}
use native.Mathlib.Omega.{arith}
use borrow.Author.Rules.{rules}
use Rattle.std.specs.Prelude.{None}
use Rattle.rs232c_asks.specs.Asks.{values_of}
use Rattle.rs232c_levels.specs.Levels.{Say, decode, put, puts, gain_of, bias_of, balanced_by}
use Rattle.rs232c_levels.proofs.Decode.{three_put}
use Rattle.rs232c_levels.proofs.rebalance.Goals as goal

gains_put : (ss : List Say) (g r : List ℕ) → length g ≡ 3 → length r ≡ 3 → get_or r 0 0 ≡ put gain_of (get_or ss 0 None) (get_or g 0 0)
    → get_or r 1 0 ≡ put gain_of (get_or ss 1 None) (get_or g 1 0) → get_or r 2 0 ≡ put gain_of (get_or ss 2 None) (get_or g 2 0) → r ≡ puts gain_of (take 3 ss) g
gains_put ss g r m n p q s = three_put gain_of (take 3 ss) g r 0 m n (p ∙ sym (at 0 (omega arith))) (q ∙ sym (at 1 (omega arith))) (s ∙ sym (at 2 (omega arith)))
  where
    at : (k : ℕ) → k < 3 → put gain_of (get_or (take 3 ss) k None) (get_or g k 0) ≡ put gain_of (get_or ss k None) (get_or g k 0)
    at k h = ap (λ (x : Say). put gain_of x (get_or g k 0)) (get_or-take 3 ss k None h)

biases_put : (ss : List Say) (z r : List ℤ) → length z ≡ 3 → length r ≡ 3 → get_or r 0 (pos 0) ≡ put bias_of (get_or ss 3 None) (get_or z 0 (pos 0))
    → get_or r 1 (pos 0) ≡ put bias_of (get_or ss 4 None) (get_or z 1 (pos 0)) → get_or r 2 (pos 0) ≡ put bias_of (get_or ss 5 None) (get_or z 2 (pos 0)) → r ≡ puts bias_of (drop 3 ss) z
biases_put ss z r m n p q s = three_put bias_of (drop 3 ss) z r (pos 0) m n (p ∙ sym (at 0)) (q ∙ sym (at 1)) (s ∙ sym (at 2))
  where
    at : (k : ℕ) → put bias_of (get_or (drop 3 ss) k None) (get_or z k (pos 0)) ≡ put bias_of (get_or ss (3 + k) None) (get_or z k (pos 0))
    at k = ap (λ (x : Say). put bias_of x (get_or z k (pos 0))) (get_or-drop 3 ss k None)

pub returns : goal.returns
unfolding balanced_by
returns c =
    let ss = decode 6 c.args.mask (values_of c.args.m.now) in
    let g = c.args.b.gains in
    let z = c.args.b.biases in
    let r = c.from_fn.result in
    let t = c.from_fn-2.result in
    let g-at = c.from_fn.ensures.items.at in
    let z-at = c.from_fn-2.ensures.items.at in
    let p : get_or r 0 0 ≡ put gain_of (get_or ss 0 None) (get_or g 0 0) = let x = g-at 0 0 (omega arith) in search rules in
    let q : get_or r 1 0 ≡ put gain_of (get_or ss 1 None) (get_or g 1 0) = let x = g-at 1 0 (omega arith) in search rules in
    let s : get_or r 2 0 ≡ put gain_of (get_or ss 2 None) (get_or g 2 0) = let x = g-at 2 0 (omega arith) in search rules in
    let u : get_or t 0 (pos 0) ≡ put bias_of (get_or ss 3 None) (get_or z 0 (pos 0)) = let x = z-at 0 (pos 0) (omega arith) in search rules in
    let v : get_or t 1 (pos 0) ≡ put bias_of (get_or ss 4 None) (get_or z 1 (pos 0)) = let x = z-at 1 (pos 0) (omega arith) in search rules in
    let w : get_or t 2 (pos 0) ≡ put bias_of (get_or ss 5 None) (get_or z 2 (pos 0)) = let x = z-at 2 (pos 0) (omega arith) in search rules in
    rw (gains_put ss g r (search rules) c.from_fn.ensures.items.long p q s, biases_put ss z t (search rules) c.from_fn-2.ensures.items.long u v w)
