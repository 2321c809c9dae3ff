-- A text put into what is left of an area is put behind what stands before it.
use Prim.Native.Nat.{ℕ, ◌+◌, ◌-◌, ◌≤◌}
use mathlib.Core.Path.{◌≡◌, sym, ap, ◌∙◌}
use mathlib.Core.List.{List, [], ◌++◌, append-nil, append_assoc}
use native.Mathlib.Omega.{arith}
use native.Mathlib.Nat.{zero-add}
use lib.ListN.{length, take, drop, length-drop, drop_of_length-le}
use lib.Seq.{drop-drop}
use borrow.Rule.Slice.PartMut.{put_mid}
use Rattle.laws.proofs.Lists.{rest}
use Rattle.script_text.specs.Puts.{written, behind, Puts}

pub puts_behind : {t e : List ℕ} {r : ℕ} (d : List ℕ) (n : ℕ) → n ≤ length d → Puts t (take (length d - n) (drop n d)) 0 e r → Puts t d n (put_mid n (length d - n) d e) (n + r)
unfolding written behind
puts_behind {t} {e} {r} d n h p =
    let all = rest d n in
    let q : Puts t (drop n d) 0 e r = rw all at p in
    let l : length (drop n d) - 0 ≡ length d - n = let m = length-drop n d in omega (arith, m) in
    let none : drop (length d - n) (drop n d) ≡ [] = drop_of_length-le (drop n d) {i = length d - n} (let m = length-drop n d in omega (arith, m)) in
    let u = take (length d - n) t in
    let area : e ≡ u ++ drop (n + length u) d = q.area_is ∙ ap (λ (k : ℕ). take k t ++ drop (0 + length (take k t)) (drop n d)) l ∙ ap (λ (k : ℕ). u ++ drop k (drop n d)) (zero-add (length u)) ∙ ap (λ (x : List ℕ). u ++ x) (drop-drop (length u) n d) in
    let next : r ≡ length u = q.next_is ∙ zero-add (length (take (length (drop n d) - 0) t)) ∙ ap (λ (k : ℕ). length (take k t)) l in
    record {
      area_is = ap (λ (x : List ℕ). take n d ++ (e ++ x)) none ∙ ap (λ (x : List ℕ). take n d ++ x) (append-nil e ∙ area) ∙ sym (append_assoc (take n d) u (drop (n + length u) d));
      next_is = ap (λ (k : ℕ). n + k) next;
    }
