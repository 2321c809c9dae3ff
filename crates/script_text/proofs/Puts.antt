-- Texts put one behind the other are one text: what was cut off ends at the area's end, and behind it nothing is put.
use mathlib.Core.Path.{◌≡◌, refl, sym, ap, subst, ◌∙◌}
use mathlib.Core.Bool.{Bool, true, false}
use mathlib.Core.List.{List, [], ◌∷◌, ◌++◌, append-nil, append_assoc}
use Prim.Native.Nat.{ℕ, suc, ◌+◌, ◌-◌, ◌<◌, ◌≤◌, min}
use native.Mathlib.Omega.{arith}
use native.Mathlib.Nat.{add-zero}
use native.Mathlib.Numerals.{add-one}
use lib.Dec.{leb}
use lib.ListN.{length, take, drop, set, length-append, length-take, length-drop, take-append-drop}
use lib.Seq.{drop-drop, take_all, take-nil, take-append-le, take-append-add, length-take-le, set_split, append_snoc}
use borrow.Author.Tests.{leb-true, leb-false}
use borrow.Rule.Slice.PartMut.{put_mid}
use Rattle.laws.specs.Bytes.{over}
use Rattle.laws.proofs.Areas.{laid_next}
use Rattle.script_text.specs.Puts.{written, behind, Puts}

-- no text
pub puts_none : (d : List ℕ) (n : ℕ) → Puts [] d n d n
unfolding written behind
puts_none d n =
    let z : take {A = ℕ} (length d - n) [] ≡ [] = take-nil (length d - n) in
    record { area_is = sym (rw (z, append-nil, add-zero) (take-append-drop n d)); next_is = sym (rw z (add-zero n)) }

pub written_none : (d : List ℕ) (n : ℕ) → written d n [] ≡ d
written_none d n = sym (puts_none d n).area_is

pub behind_none : (d : List ℕ) (n : ℕ) → behind d n [] ≡ n
behind_none d n = sym (puts_none d n).next_is

either : {P : Type 0} (m n : ℕ) → (m ≤ n → P) → (n < m → P) → P
either {P} m n f g = go (leb m n) refl
  where
    go : (b : Bool) → leb m n ≡ b → P
    go true e = f (leb-true m n e)
    go false e = g (leb-false m n e)

-- what there is room for, copied
pub puts_front : {t d e : List ℕ} {n m j k : ℕ} → n < length d → m ≡ min (length t) (length d - n) → j ≡ m → k ≡ m → e ≡ take k t → Puts t d n (put_mid n j d e) (n + m)
unfolding written behind
puts_front {t} {d} {e} {n} {m} {j} {k} h q a b c =
    let r = take (length d - n) t in
    let front : take k t ≡ r = either (length t) (length d - n) (λ l. take_all k t (omega arith) ∙ sym (take_all (length d - n) t l)) (λ l. ap (λ (i : ℕ). take i t) (omega arith)) in
    let size : m ≡ length r = simp length-take (omega arith) in
    let here : j ≡ length r = a ∙ size in
    record {
      area_is = ap (λ (x : List ℕ). take n d ++ (x ++ drop j (drop n d))) (c ∙ front) ∙ ap (λ (i : ℕ). take n d ++ (r ++ drop i (drop n d))) here ∙ ap (λ (x : List ℕ). take n d ++ (r ++ x)) (drop-drop (length r) n d) ∙ sym (append_assoc (take n d) r (drop (n + length r) d));
      next_is = ap (λ (i : ℕ). n + i) size;
    }

-- at or past the end nothing is put
pub puts_outside : (t d : List ℕ) (n : ℕ) → length d ≤ n → Puts t d n d n
unfolding written behind
puts_outside t d n h =
    let z : length d - n ≡ 0 = omega arith in
    record { area_is = sym (rw (z, append-nil, add-zero) (take-append-drop n d)); next_is = sym (rw z (add-zero n)) }

-- one promise, one outcome
pub puts_one : {t d e e' : List ℕ} {n r r' : ℕ} → Puts t d n e r → Puts t d n e' r' → (e ≡ e') × (r ≡ r')
puts_one p q = (p.area_is ∙ sym q.area_is, p.next_is ∙ sym q.next_is)

-- the same text, said otherwise
pub puts_as : {s t d e : List ℕ} {n r : ℕ} → s ≡ t → Puts s d n e r → Puts t d n e r
puts_as {s} {t} {d} {e} {n} {r} q p = subst (λ (x : List ℕ). Puts x d n e r) q p

-- where there is room the whole text is put
pub puts_whole : {t d e : List ℕ} {n r : ℕ} → Puts t d n e r → n + length t ≤ length d → (e ≡ over d n t) × (r ≡ n + length t)
unfolding written behind
puts_whole {t} {d} {e} {n} p h =
    let all : take (length d - n) t ≡ t = take_all (length d - n) t (omega arith) in
    (p.area_is ∙ ap (over d n) all, p.next_is ∙ ap (λ (x : List ℕ). n + length x) all)

-- where there is none it ends with the area
pub puts_cut : {t d e : List ℕ} {n r : ℕ} → Puts t d n e r → n ≤ length d → length d ≤ n + length t → r ≡ length d
unfolding behind
puts_cut {t} {d} {e} {n} p h k =
    let size : length (take (length d - n) t) ≡ length d - n = length-take-le (length d - n) t (omega arith) in
    p.next_is ∙ rw size (omega arith)

-- the area keeps its length
pub puts_length : {t d e : List ℕ} {n r : ℕ} → Puts t d n e r → length e ≡ length d
unfolding written
puts_length {t} {d} {e} {n} p =
    either n (length d)
    (λ h. ap length p.area_is ∙ simp (length-append, length-take, length-drop) (omega arith))
    (λ h. ap length (puts_one p (puts_outside t d n (omega arith))).0)

-- and the text ends in it
pub puts_end : {t d e : List ℕ} {n r : ℕ} → Puts t d n e r → n ≤ length d → r ≤ length d
unfolding behind
puts_end {t} {d} {e} {n} p h = rw p.next_is (simp length-take (omega arith))

-- a text and one behind it: there is room for the first, or it is cut off, or nothing is put at all
then_room : {s t d e f : List ℕ} {n m r : ℕ} → Puts s d n e m → Puts t e m f r → n + length s ≤ length d → Puts (s ++ t) d n f r
unfolding written behind
then_room {s} {t} {d} {e} {f} {n} {m} {r} p q h =
    let (area, next) = puts_whole p h in
    let size = puts_length p in
    let left : length e - m ≡ length d - (n + length s) = omega arith in
    let split : length d - n ≡ length s + (length d - (n + length s)) = omega arith in
    let all : take (length d - n) (s ++ t) ≡ s ++ take (length e - m) t = rw (split, left) (take-append-add s t (length d - (n + length s))) in
    let l = laid_next f (take (length e - m) t) (length (take (length e - m) t)) _ (record { is = area; end = sym next }) q.area_is refl refl (omega arith) in
    record { area_is = rw all l.is; next_is = q.next_is ∙ rw all (sym l.end) }

then_cut : {s t d e f : List ℕ} {n m r : ℕ} → Puts s d n e m → Puts t e m f r → n ≤ length d → length d ≤ n + length s → Puts (s ++ t) d n f r
unfolding written behind
then_cut {s} {t} {d} {e} {f} {n} {m} {r} p q h k =
    let end = puts_cut p h k in
    let size = puts_length p in
    let (area, next) = puts_one q (puts_outside t e m (omega arith)) in
    let front : take (length d - n) (s ++ t) ≡ take (length d - n) s = take-append-le (length d - n) s t (omega arith) in
    record { area_is = area ∙ rw front p.area_is; next_is = next ∙ rw front p.next_is }

then_outside : {s t d e f : List ℕ} {n m r : ℕ} → Puts s d n e m → Puts t e m f r → length d ≤ n → Puts (s ++ t) d n f r
then_outside {s} {t} {d} {e} {f} {n} {m} {r} p q h =
    let (a, x) = puts_one p (puts_outside s d n h) in
    let size = puts_length p in
    let (b, y) = puts_one q (puts_outside t e m (omega arith)) in
    rw (b, y, a, x) (puts_outside (s ++ t) d n h)

pub puts_then : {s t d e f : List ℕ} {n m r : ℕ} → Puts s d n e m → Puts t e m f r → Puts (s ++ t) d n f r
puts_then {s} {t} {d} {e} {f} {n} p q =
    either n (length d)
    (λ h. either (n + length s) (length d) (then_room p q) (λ k. then_cut p q h (omega arith)))
    (λ h. then_outside p q (omega arith))

-- one byte
pub puts_byte : (d : List ℕ) (n x : ℕ) → n < length d → Puts (x ∷ []) d n (set d n x) (n + 1)
unfolding written behind
puts_byte d n x h =
    let all : take (length d - n) (x ∷ []) ≡ x ∷ [] = take_all (length d - n) (x ∷ []) (omega arith) in
    record { area_is = rw (all, add-one) (set_split d n x h ∙ sym (append_snoc (take n d) x (drop (suc n) d))); next_is = sym (rw all) }

-- a whole text, of which a front is put and a rest is left
pub record Underway (whole rest d : List ℕ) (n : ℕ) (e : List ℕ) (r : ℕ) : Type 0 where
  pub front : List ℕ
  pub joined : front ++ rest ≡ whole
  pub puts : Puts front d n e r

pub under_first : (whole d : List ℕ) (n : ℕ) → Underway whole whole d n d n
under_first whole d n = record { front = []; joined = refl; puts = puts_none d n }

pub under_next : {whole rest d e f : List ℕ} {n m r : ℕ} (t rest' : List ℕ) → Underway whole rest d n e m → rest ≡ t ++ rest' → Puts t e m f r → Underway whole rest' d n f r
under_next t rest' u q p = record {
  front = u.front ++ t;
  joined = append_assoc u.front t rest' ∙ ap (λ (x : List ℕ). u.front ++ x) (sym q) ∙ u.joined;
  puts = puts_then u.puts p;
}

-- the rest was put, or none of it, because the area has ended
pub under_last : {whole rest d e f : List ℕ} {n m r : ℕ} → Underway whole rest d n e m → Puts rest e m f r → Puts whole d n f r
under_last u p = rw (← u.joined) (puts_then u.puts p)

pub under_none : {whole rest d e : List ℕ} {n m : ℕ} → Underway whole rest d n e m → rest ≡ [] → Puts whole d n e m
under_none {whole} {rest} {d} {e} {n} {m} u q = under_last u (rw q (puts_none e m))
