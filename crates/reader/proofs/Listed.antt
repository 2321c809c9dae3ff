-- What the list says, whatever the buffer: each step of the reader's way keeps it.
use Prim.Native.Nat.{ℕ, zero, suc, ◌+◌, ◌≤◌, ◌<◌}
use native.Mathlib.Omega.{arith}
use mathlib.Core.Bool.{Bool, true, false}
use mathlib.Core.Path.{◌≡◌, refl, sym, ap, ◌∙◌}
use mathlib.Core.List.{List, []}
use lib.ListN.{length, get_or, take, drop, set, length-set}
use lib.Seq.{length-take-le, get_or-set_same, get_or-set_other}
use lib.Dec.{ltb}
use borrow.Author.Tests.{ltb-true, ltb-false}
use Rattle.sdcp_asks.specs.Asks.{data_length_of, is_ours}
use Rattle.receiver.specs.Stream.{can_begin, sought, whole}
use Rattle.receiver.specs.Calls.{holding, held_in}
use Rattle.receiver.proofs.Stream.{noise_none, whole_is}
use Rattle.receiver.proofs.Calls.{by_call_lem, whole_packet}
use Rattle.reader.specs.declared.Listing.{Listing}
use Rattle.reader.specs.Plain.{no_entries, plain}
use Rattle.reader.proofs.Ways.{Way, way}
use Rattle.reader.proofs.Ways.Way.{ends, stops, passes, notes}

-- ---- what is kept from place to place

-- up to a place, with n entries
record Kept (b : List ℕ) (at n : ℕ) (ss ks : List ℕ) : Type 0 where
  few : n ≤ 64
  room : (length ss ≡ 64) × (length ks ≡ 64)
  within : (i : ℕ) → i < n → get_or ss i 0 + get_or ks i 0 ≤ at
  rising : (i j : ℕ) → i < j → j < n → get_or ss i 0 + get_or ks i 0 ≤ get_or ss j 0
  entry : (i : ℕ) → i < n → (can_begin (drop (get_or ss i 0) b) ≡ true) × (whole (drop (get_or ss i 0) b) ≡ get_or ks i 0) × (0 < get_or ks i 0)
  passed : (p : ℕ) → p < at → ((i : ℕ) → i < n → get_or ss i 0 ≤ p → get_or ss i 0 + get_or ks i 0 ≤ p) → can_begin (drop p b) ≡ false

-- a byte that is passed over
module _ (b : List ℕ) (at n : ℕ) (ss ks : List ℕ) (o : Kept b at n ss ks) (q : can_begin (drop at b) ≡ false) where
  passed_on : (p : ℕ) → p < at + 1 → ((i : ℕ) → i < n → get_or ss i 0 ≤ p → get_or ss i 0 + get_or ks i 0 ≤ p) → can_begin (drop p b) ≡ false
  passed_on p h f = go (ltb p at) refl
    where
      go : (t : Bool) → ltb p at ≡ t → can_begin (drop p b) ≡ false
      go true e = o.passed p (ltb-true p at e) f
      go false e = let k : p ≡ at = omega (arith, ltb-false p at e) in ap (λ (j : ℕ). can_begin (drop j b)) k ∙ q

  kept_passed : Kept b (at + 1) n ss ks
  kept_passed = record {
    few = o.few;
    room = o.room;
    within = λ i h. omega (arith, o.within i h);
    rising = o.rising;
    entry = o.entry;
    passed = passed_on;
  }

-- an entry more
module _ (b : List ℕ) (at n k : ℕ) (ss ks : List ℕ) (o : Kept b at n ss ks) (h : n < 64) where
  abbrev ss' : List ℕ
  ss' = set ss n at

  abbrev ks' : List ℕ
  ks' = set ks n k

  -- what holds of each entry, and of the new one
  each : (P : ℕ → ℕ → ℕ → Type 0) → ((i : ℕ) → i < n → P i (get_or ss i 0) (get_or ks i 0)) → P n at k → (i : ℕ) → i < n + 1 → P i (get_or ss' i 0) (get_or ks' i 0)
  each P f p i l = go (ltb i n) refl
    where
      go : (t : Bool) → ltb i n ≡ t → P i (get_or ss' i 0) (get_or ks' i 0)
      go true e =
          let j = ltb-true i n e in
          let d : i ≡ n → ⊥ = λ z. omega arith in
          rw (get_or-set_other ss n i at 0 d, get_or-set_other ks n i k 0 d) (f i j)
      go false e =
          let j : i ≡ n = omega (arith, ltb-false i n e) in
          rw (j, get_or-set_same ss n at 0 (omega (arith, o.room.0)), get_or-set_same ks n k 0 (omega (arith, o.room.1))) p

  others : (i : ℕ) → i < n → (get_or ss' i 0 ≡ get_or ss i 0) × (get_or ks' i 0 ≡ get_or ks i 0)
  others i l = let d : i ≡ n → ⊥ = λ z. omega arith in (get_or-set_other ss n i at 0 d, get_or-set_other ks n i k 0 d)

  rising_on : (i j : ℕ) → i < j → j < n + 1 → get_or ss' i 0 + get_or ks' i 0 ≤ get_or ss' j 0
  rising_on i j l m =
      each (λ (j s d : ℕ). i < j → get_or ss' i 0 + get_or ks' i 0 ≤ s)
      (λ j m l. omega (arith, others i (omega arith), o.rising i j l m))
      (λ l. omega (arith, others i l, o.within i l)) j m l

  passed_new : (p : ℕ) → p < at + k → ((i : ℕ) → i < n + 1 → get_or ss' i 0 ≤ p → get_or ss' i 0 + get_or ks' i 0 ≤ p) → can_begin (drop p b) ≡ false
  passed_new p l f = go (ltb p at) refl
    where
      last : at ≤ p → at + k ≤ p
      last = rw (get_or-set_same ss n at 0 (omega (arith, o.room.0)), get_or-set_same ks n k 0 (omega (arith, o.room.1))) at (f n (omega arith))

      go : (t : Bool) → ltb p at ≡ t → can_begin (drop p b) ≡ false
      go true e = o.passed p (ltb-true p at e) (λ i m z. omega (arith, others i m, f i (omega arith) (omega (arith, others i m))))
      go false e = absurd (omega (arith, last (ltb-false p at e)))

  kept_noted : can_begin (drop at b) ≡ true → whole (drop at b) ≡ k → 0 < k → Kept b (at + k) (n + 1) ss' ks'
  kept_noted q w z = record {
    few = omega arith;
    room = (length-set ss n at ∙ o.room.0, length-set ks n k ∙ o.room.1);
    within = each (λ (i s d : ℕ). s + d ≤ at + k) (λ i l. omega (arith, o.within i l)) (omega arith);
    rising = rising_on;
    entry = each (λ (i s d : ℕ). (can_begin (drop s b) ≡ true) × (whole (drop s b) ≡ d) × (0 < d)) o.entry (q, w, z);
    passed = passed_new;
  }

kept : {b : List ℕ} {at : ℕ} {l f : Listing} → Way b at l f → Kept b at l.count l.starts l.lengths → Kept b f.end f.count f.starts f.lengths
kept (ends h q w) o = o
kept (stops h q w n) o = o
kept {b} {at} {l} (passes q v) o = kept v (kept_passed b at l.count l.starts l.lengths o q)
kept {b} {at} {l} (notes n q w h v) o = kept v (kept_noted b at l.count (suc n) l.starts l.lengths o h q w (omega arith))

kept_at_end : (b : List ℕ) → Kept b (plain b).end (plain b).count (plain b).starts (plain b).lengths
unfolding no_entries
kept_at_end b = kept (way b) (record {
  few = omega arith;
  room = (refl, refl);
  within = λ i h. absurd (omega arith);
  rising = λ i j l h. absurd (omega arith);
  entry = λ i h. absurd (omega arith);
  passed = λ p h f. absurd (omega arith);
})

-- ---- what an entry is

abbrev pub IsWhole : List ℕ → ℕ → Type 0
IsWhole o k = (is_ours o ≡ true) × (length o ≡ k) × (data_length_of o ≤ 499 → k ≡ 13 + data_length_of o) × (499 < data_length_of o → k ≡ 13)

-- an empty receiver would hand it out
entry_whole : (s : List ℕ) (k : ℕ) → can_begin s ≡ true → whole s ≡ k → 0 < k → IsWhole (take k s) k
unfolding held_in holding
entry_whole s zero q w h = absurd (omega arith)
entry_whole s (suc n) q w h =
    let z : sought s ≡ s = ap (λ (j : ℕ). drop j s) (noise_none s q) in
    let l = length-take-le (suc n) s (whole_is s n w).there in
    let g = by_call_lem (holding []) s (λ g. g.packet ≡ take (suc n) s)
    (λ e. absurd (omega (arith, e, ap whole z ∙ w)))
    (λ m e. ap (λ (j : ℕ). take j (sought s)) (sym e ∙ ap whole z ∙ w) ∙ ap (take (suc n)) z) in
    let p = rw g at (whole_packet (holding []) s (λ e. omega (arith, ap length (sym g ∙ e), l))) in
    (p.0, l, (λ e. sym l ∙ p.2 e), (λ e. sym l ∙ p.3 e))

-- ---- where it ends

record Ended (b : List ℕ) (f : Listing) : Type 0 where
  in_buffer : f.end ≤ length b
  begins : can_begin (drop f.end b) ≡ true
  stopped : (f.stopped ≡ 0 → ⊥) → (f.stopped ≡ 1) × (64 ≤ f.count) × (whole (drop f.end b) ≡ 0 → ⊥)
  tail : f.stopped ≡ 0 → whole (drop f.end b) ≡ 0

ended : {b : List ℕ} {at : ℕ} {l f : Listing} → Way b at l f → Ended b f
ended (ends h q w) = record { in_buffer = h; begins = q; stopped = λ z. absurd (z refl); tail = λ z. w }
ended (stops h q w n) = record { in_buffer = h; begins = q; stopped = λ z. (refl, n, w); tail = λ z. absurd (omega arith) }
ended (passes q v) = ended v
ended (notes n q w h v) = ended v

-- ---- the theorems

-- "The list holds 64 entries"
pub listed_few : (b : List ℕ) → (plain b).count ≤ 64
listed_few b = (kept_at_end b).few

-- the start and the length of an entry
abbrev pub start_at : Listing → ℕ → ℕ
start_at l i = get_or l.starts i 0

abbrev pub length_at : Listing → ℕ → ℕ
length_at l i = get_or l.lengths i 0

-- in their order: the starts rise, and each entry ends at or before every later start
pub listed_rising : (b : List ℕ) (i j : ℕ) → i < j → j < (plain b).count
    → (start_at (plain b) i < start_at (plain b) j) × (start_at (plain b) i + length_at (plain b) i ≤ start_at (plain b) j)
listed_rising b i j l m =
    let o = kept_at_end b in
    (omega (arith, o.rising i j l m, o.entry i (omega arith)), o.rising i j l m)

-- and at or before the end
pub listed_before : (b : List ℕ) (i : ℕ) → i < (plain b).count → start_at (plain b) i + length_at (plain b) i ≤ (plain b).end
listed_before b = (kept_at_end b).within

-- "each packet and [..] each overlong header": an entry is a packet whole, and of an overlong one its 13 bytes
pub listed_whole : (b : List ℕ) (i : ℕ) → i < (plain b).count → IsWhole (take (length_at (plain b) i) (drop (start_at (plain b) i) b)) (length_at (plain b) i)
listed_whole b i h = let e = (kept_at_end b).entry i h in entry_whole (drop (start_at (plain b) i) b) (length_at (plain b) i) e.0 e.1 e.2

-- "where an unfinished tail begins, else the buffer's end"
pub ends_in : (b : List ℕ) → (plain b).end ≤ length b
ends_in b = (ended (way b)).in_buffer

pub tail_is : (b : List ℕ) → (plain b).stopped ≡ 0 → (can_begin (drop (plain b).end b) ≡ true) × (whole (drop (plain b).end b) ≡ 0)
tail_is b z = ((ended (way b)).begins, (ended (way b)).tail z)

-- "stops at the start of a 65th": a whole one
pub stopped_is : (b : List ℕ) → ((plain b).stopped ≡ 0 → ⊥)
    → ((plain b).stopped ≡ 1) × ((plain b).count ≡ 64) × (can_begin (drop (plain b).end b) ≡ true) × (whole (drop (plain b).end b) ≡ 0 → ⊥)
stopped_is b z =
    let s = (ended (way b)).stopped z in
    (s.0, omega (arith, s.1, listed_few b), (ended (way b)).begins, s.2)

-- and all else before the end is noise: at no place outside the entries can a packet begin
pub passed_noise : (b : List ℕ) (p : ℕ) → p < (plain b).end
    → ((i : ℕ) → i < (plain b).count → start_at (plain b) i ≤ p → start_at (plain b) i + length_at (plain b) i ≤ p) → can_begin (drop p b) ≡ false
passed_noise b = (kept_at_end b).passed
