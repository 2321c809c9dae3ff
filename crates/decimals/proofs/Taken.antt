-- Powers of ten taken off: digit and rest stay the last digits of the number, so when the power goes no more its digit is the number's own.
use mathlib.Core.Path.{◌≡◌, refl, sym, ap, subst, ◌∙◌}
use mathlib.Core.Bool.{Bool, true, false, cond}
use mathlib.Core.List.{List}
use Prim.Native.Nat.{ℕ, suc, ◌+◌, ◌-◌, ◌*◌, ◌/◌, ◌%◌, ◌^◌, ◌<◌, ◌≤◌}
use native.Mathlib.Omega.{arith}
use native.Mathlib.Nat.{add-mul, one-mul, zero-mul, mul-zero, mul-one, add-zero, sub-zero, mod-eq_of_lt, pow-le-pow_right}
use lib.Dec.{eqb, ltb}
use lib.ListN.{length, get_or, set, replicate, get_or-replicate, length-set}
use lib.Seq.{get_or-set_same, get_or-set_other, ext_get_or, set-get_or}
use borrow.Author.Tests.{eqb-true, eqb-false, ltb-true, ltb-false}
use Rattle.laws.proofs.Numbers.{positive}
use Rattle.decimals.specs.Decimals.{in_digits}
use Rattle.decimals.proofs.Decimals.{digits_at}
use Rattle.decimals.proofs.Powers.{powers, power, power_small, no_digit, split, nine_times}

-- x is the digit so far of the power 10 ^ j, and rest what is left of the last j + 1 digits
pub record Part (v x rest j : ℕ) : Type 0 where
  pub low : 0x30 ≤ x
  pub is : (x - 0x30) * 10 ^ j + rest ≡ v % 10 ^ suc j

-- it is a digit
part_digit : {v x rest j : ℕ} → Part v x rest j → x < 0x3a
part_digit {v} {x} {rest} {j} p = let k = nine_times v (x - 0x30) rest j p.is in omega arith

-- the power goes once more
part_once : {v x rest j : ℕ} → Part v x rest j → 10 ^ j ≤ rest → Part v (x + 1) (rest - 10 ^ j) j
part_once {v} {x} {rest} {j} p h =
    let l = p.low in
    let e = p.is in
    let s : x + 1 - 0x30 ≡ x - 0x30 + 1 = omega arith in
    record { low = omega arith; is = rw s (omega (arith, add-mul (x - 0x30) 1 (10 ^ j), one-mul (10 ^ j))) }

-- at place n: the digits before it are done, those behind it are still `0`, and its own digit so far and the rest are the last digits
pub record Taking (v : ℕ) (d : List ℕ) (rest n : ℕ) : Type 0 where
  pub here : n ≤ 10
  pub long : length d ≡ 10
  pub done : (k : ℕ) → k < n → get_or d k 0 ≡ 0x30 + v / 10 ^ (9 - k) % 10
  pub left : (k : ℕ) → n < k → k < 10 → get_or d k 0 ≡ 0x30
  pub part : n < 10 → Part v (get_or d n 0) rest (9 - n)

-- nothing is taken off yet
pub taking_none : (v from : ℕ) → from ≤ 10 → v < 10 ^ (10 - from) → Taking v (replicate 10 0x30) v from
taking_none v from l h = record {
  here = l;
  long = refl;
  done = λ k b.
      let s : 10 - from ≤ 9 - k = omega arith in
      let p : 10 ^ (10 - from) ≤ 10 ^ (9 - k) = pow-le-pow_right (omega arith) s in
      get_or-replicate {A = ℕ} 10 k 0x30 0 (omega arith) ∙ sym (no_digit v (9 - k) (omega arith));
  left = λ k b m. get_or-replicate {A = ℕ} 10 k 0x30 0 m;
  part = λ b.
      let s : 10 - from ≡ suc (9 - from) = omega arith in
      let m : v % 10 ^ suc (9 - from) ≡ v = mod-eq_of_lt (subst (λ (j : ℕ). v < 10 ^ j) s h) in
      rw (get_or-replicate {A = ℕ} 10 from 0x30 0 b) (record { low = omega arith; is = rw zero-mul (omega arith) });
}

-- the power goes no more: on to the next
taking_next : {v : ℕ} {d : List ℕ} {rest n : ℕ} → Taking v d rest n → n < 10 → rest < 10 ^ (9 - n) → Taking v d rest (n + 1)
taking_next {v} {d} {rest} {n} t h l = record { here = omega arith; long = t.long; done = done_to; left = λ k m b. t.left k (omega arith) b; part = next }
  where
    both : (get_or d n 0 - 0x30 ≡ v / 10 ^ (9 - n) % 10) × (rest ≡ v % 10 ^ (9 - n))
    both = split v (get_or d n 0 - 0x30) rest (9 - n) (t.part h).is l

    done_to : (k : ℕ) → k < n + 1 → get_or d k 0 ≡ 0x30 + v / 10 ^ (9 - k) % 10
    done_to k m = go (eqb k n) refl
      where
        go : (b : Bool) → eqb k n ≡ b → get_or d k 0 ≡ 0x30 + v / 10 ^ (9 - k) % 10
        go true e =
            let q = eqb-true k n e in
            let w = (t.part h).low in
            let z = both.0 in
            rw q (omega arith)
        go false e = t.done k (let q = eqb-false k n e in omega arith)

    next : n + 1 < 10 → Part v (get_or d (n + 1) 0) rest (9 - (n + 1))
    next m =
        let q : 9 - n ≡ suc (9 - (n + 1)) = omega arith in
        let z : rest ≡ v % 10 ^ suc (9 - (n + 1)) = both.1 ∙ ap (λ (j : ℕ). v % 10 ^ j) q in
        let x = t.left (n + 1) (omega arith) m in
        rw x (record { low = omega arith; is = rw zero-mul (omega arith) })

-- the power taken off once more
taking_once : {v : ℕ} {d : List ℕ} {rest n : ℕ} → Taking v d rest n → n < 10 → 10 ^ (9 - n) ≤ rest → Taking v (set d n (get_or d n 0 + 1)) (rest - 10 ^ (9 - n)) n
taking_once {v} {d} {rest} {n} t h l =
    let g = t.long in record {
      here = t.here;
      long = rw length-set g;
      done = λ k m. get_or-set_other d n k (get_or d n 0 + 1) 0 (λ e. omega arith) ∙ t.done k m;
      left = λ k m b. get_or-set_other d n k (get_or d n 0 + 1) 0 (λ e. omega arith) ∙ t.left k m b;
      part = λ m. rw (get_or-set_same d n (get_or d n 0 + 1) 0 (omega arith)) (part_once (t.part h) l);
    }

-- all powers are taken off
pub taking_all : {v : ℕ} {d : List ℕ} {rest : ℕ} → Taking v d rest 10 → d ≡ in_digits 10 v
unfolding in_digits
taking_all {v} {d} t = ext_get_or 0 d (in_digits 10 v) t.long (λ k h. let g = t.long in t.done k (omega arith) ∙ sym (digits_at 10 k v (omega arith)))

-- a turn of the loop, in which the power p comes off m times: nothing overflows, the measure falls, and the next turn finds the same
pub record Turned (v : ℕ) (d : List ℕ) (rest n p m : ℕ) : Type 0 where
  pub small : m ≤ 1
  pub fits : p * m ≤ rest
  pub word : p * m < 4294967296
  pub digit : get_or d n 0 + m < 256
  pub less : rest - p * m + (10 - (n + (1 - m))) < rest + (10 - n)
  pub next : Taking v (set d n (get_or d n 0 + m)) (rest - p * m) (n + (1 - m))

none_off : {v : ℕ} {d : List ℕ} {rest n p : ℕ} → Taking v d rest n → n < 10 → p ≡ 10 ^ (9 - n) → rest < p → Turned v d rest n p 0
none_off {v} {d} {rest} {n} {p} t h e l =
    let z = mul-zero p in
    let b = part_digit (t.part h) in
    let s : set d n (get_or d n 0 + 0) ≡ d = ap (set d n) (add-zero (get_or d n 0)) ∙ set-get_or d n 0 in record {
      small = omega arith;
      fits = omega arith;
      word = omega arith;
      digit = omega arith;
      less = omega arith;
      next = rw (s, mul-zero, sub-zero rest) (taking_next t h (omega arith));
    }

one_off : {v : ℕ} {d : List ℕ} {rest n p : ℕ} → Taking v d rest n → n < 10 → p ≡ 10 ^ (9 - n) → p ≤ rest → Turned v d rest n p 1
one_off {v} {d} {rest} {n} {p} t h e l =
    let o = mul-one p in
    let q = positive 10 (9 - n) (omega arith) in
    let w = power_small (9 - n) (omega arith) in
    let b = part_digit (part_once (t.part h) (omega arith)) in record {
      small = omega arith;
      fits = omega arith;
      word = omega arith;
      digit = omega arith;
      less = omega arith;
      next = rw (mul-one, add-zero n, e) (taking_once t h (omega arith));
    }

pub turned : {v : ℕ} {d : List ℕ} {rest n m : ℕ} → Taking v d rest n → n < 10 → m ≡ cond (ltb rest (get_or powers n 0)) 0 1 → Turned v d rest n (get_or powers n 0) m
turned {v} {d} {rest} {n} {m} t h f = go (ltb rest (get_or powers n 0)) refl f
  where
    go : (b : Bool) → ltb rest (get_or powers n 0) ≡ b → m ≡ cond b 0 1 → Turned v d rest n (get_or powers n 0) m
    go true l g = rw g (none_off t h (power n h) (ltb-true rest (get_or powers n 0) l))
    go false l g = rw g (one_off t h (power n h) (ltb-false rest (get_or powers n 0) l))
