-- A reply's packet is what is laid over the area part by part, and what was not refused has its thirteen bytes.
use Prim.Native.Nat.{ℕ, ◌+◌, ◌≤◌}
use mathlib.Core.Path.{◌≡◌, refl, sym, ap, subst, ◌∙◌}
use mathlib.Core.List.{List, [], ◌∷◌, ◌++◌, append_assoc}
use native.Mathlib.Omega.{arith}
use lib.ListN.{length, get_or, drop}
use lib.Seq.{drop-append_seam}
use Rattle.std.specs.Prelude.{Option, Some, None, Ok, Err}
use Rattle.laws.specs.Bytes.{part, laid, sent, Sent}
use Rattle.laws.specs.Numbers.{in_bytes}
use Rattle.laws.proofs.Areas.{laid_first, laid_more, over_front}
use Rattle.laws.proofs.Lists.{part_from, part_length}
use Rattle.laws.proofs.Numbers.{length_in_bytes}
use Rattle.vmc_asks.specs.declared.Order.{Order}
use Rattle.vmc_asks.specs.Asks.{read_data}
use Rattle.sdcp_asks.specs.Asks.{in_words, data_of, heard_of, Heard}
use Rattle.sdcp.specs.Replies.{packet_of}
use Rattle.sdcp_asks.proofs.Envelopes.{by_rungs}
use Rattle.sdcp_asks.specs.declared.Fault.TheVariants.{Refused, Broken, NotUnderstood}

two : (l : List ℕ) → length l ≡ 2 → get_or l 0 0 ∷ get_or l 1 0 ∷ [] ≡ l
two [] e = absurd (omega arith)
two (x ∷ []) e = absurd (omega arith)
two (x ∷ y ∷ []) e = refl
two (x ∷ y ∷ z ∷ l) e = absurd (omega arith)

-- the five bytes behind the request's first eight
abbrev pub head_of : List ℕ → ℕ → List ℕ → List ℕ
head_of m code size = code ∷ get_or m 9 0 ∷ get_or m 10 0 ∷ get_or size 0 0 ∷ get_or size 1 0 ∷ []

head_is : (m : List ℕ) (code : ℕ) (size : List ℕ) (n : ℕ) → 13 ≤ length m → size ≡ in_bytes 2 n → head_of m code size ≡ ((code ∷ []) ++ part 9 2 m) ++ in_bytes 2 n
head_is m code size n h e =
    let item : part 9 2 m ≡ get_or m 9 0 ∷ get_or m 10 0 ∷ [] = part_from 9 10 1 m (omega arith) refl ∙ ap (λ (l : List ℕ). get_or m 9 0 ∷ l) (part_from 10 11 0 m (omega arith) refl) in
    let s : get_or size 0 0 ∷ get_or size 1 0 ∷ [] ≡ in_bytes 2 n = two size (ap length e ∙ length_in_bytes 2 n) ∙ e in
    ap (λ (l : List ℕ). code ∷ get_or m 9 0 ∷ get_or m 10 0 ∷ l) s ∙ ap (λ (l : List ℕ). ((code ∷ []) ++ l) ++ in_bytes 2 n) (sym item)

packet_is : (m : List ℕ) (code : ℕ) (size body : List ℕ) → 13 ≤ length m → size ≡ in_bytes 2 (length body) → (part 0 8 m ++ head_of m code size) ++ body ≡ packet_of m code body
unfolding packet_of
packet_is m code size body h e =
    let a = part 0 8 m in
    let i = part 9 2 m in
    let s = in_bytes 2 (length body) in
    ap (λ (l : List ℕ). (a ++ l) ++ body) (head_is m code size (length body) h e)
    ∙ ap (λ (l : List ℕ). l ++ body) (sym (append_assoc a ((code ∷ []) ++ i) s) ∙ ap (λ (l : List ℕ). l ++ s) (sym (append_assoc a (code ∷ []) i)))

-- the three parts laid one behind the other
pub sends : (m : List ℕ) (code : ℕ) (size body area x y z : List ℕ) → 13 ≤ length m → length body ≤ 20 → 512 ≤ length area → size ≡ in_bytes 2 (length body) → x ≡ laid area 0 (part 0 8 m) → y ≡ laid x 8 (head_of m code size) → z ≡ laid y 13 body → Sent (packet_of m code body) (13 + length body) area z
sends m code size body area x y z h k r e p q s =
    let l = part_length 0 8 m (omega arith) in
    let l₁ = laid_first {d = area} {n = 0} x (part 0 8 m) 8 8 p l refl (omega arith) in
    let l₂ = laid_more y (head_of m code size) 5 13 l₁ q refl refl (omega arith) in
    let l₃ = laid_more z body (length body) (13 + length body) l₂ s refl refl (omega arith) in
    let w = packet_is m code size body h e in
    record {
      length_is = sym l₃.end ∙ ap (λ (v : List ℕ). 0 + length v) w ∙ (let q : 0 + length (packet_of m code body) ≡ length (packet_of m code body) = omega arith in q);
      area_is = l₃.is ∙ over_front area ((part 0 8 m ++ head_of m code size) ++ body) ∙ ap (λ (v : List ℕ). sent v area) w;
    }

-- what was not refused has its thirteen bytes
abbrev pub Long : List ℕ → Heard → Type 0
Long m (Err (Refused a)) = Unit {0}
Long m (Err (Broken p)) = 13 ≤ length m
Long m (Err NotUnderstood) = 13 ≤ length m
Long m (Ok o) = 13 ≤ length m

pub heard_long : (m : List ℕ) → Long m (heard_of m)
heard_long m = by_rungs (Long m) m tt tt (λ h p e. h) (words (read_data (data_of m)))
  where
    words : (x : Option Order) → 13 ≤ length m → Long m (in_words x)
    words (Some o) h = h
    words None h = h

-- "The data area, from byte 13 to its end, is read as it stands."
pub data_stands : (head words : List ℕ) → length head ≡ 13 → data_of (head ++ words) ≡ words
data_stands head words e = subst (λ (n : ℕ). drop n (head ++ words) ≡ words) e (drop-append_seam head words)
