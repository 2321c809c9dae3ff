-- The plain reader beside §1's receiver: up to where the reader ends, the buffer is a stream whose packets are the listed parts, and a
-- receiver that is given a stream in one piece hands out its packets; so it does in any cutting.
use Prim.Native.Nat.{ℕ, suc, ◌+◌, ◌-◌, ◌≤◌, ◌<◌}
use native.Mathlib.Omega.{arith}
use native.Mathlib.Numerals.{add-one}
use mathlib.Core.Bool.{Bool, true, false}
use mathlib.Core.Path.{◌≡◌, refl, sym, ap, subst, ◌∙◌}
use mathlib.Core.List.{List, [], ◌∷◌, ◌++◌, append_assoc, append-nil}
use lib.ListN.{length, take, drop, length-drop, length-set, take-append-drop, drop_of_length-le}
use lib.Seq.{drop-drop, length-take-le, take-suc-set, take-add, take_all, take-nil}
use lib.Dec.{ltb}
use borrow.Author.Tests.{lt-ltb, le-ltb, ltb-true, ltb-false}
use Rattle.laws.proofs.Conditions.{false_true}
use Rattle.sdcp_asks.specs.Asks.{front}
use Rattle.receiver.specs.declared.Receiver.{Receiver}
use Rattle.receiver.specs.Stream.{agrees, can_begin, noise, sought, size, whole}
use Rattle.receiver.specs.Calls.{holding, held_in, given}
use Rattle.receiver.specs.Pieces.{Feeds, Cuts, joined}
use Rattle.receiver.specs.Pieces.Feeds.{last, more}
use Rattle.receiver.specs.Pieces.Cuts.{one}
use Rattle.receiver.proofs.Stream.{agrees_long, noise_none, size_min, size_more, whole_is}
use Rattle.receiver.proofs.Reading.{ReadAs, one_reading, read_on}
use Rattle.receiver.proofs.Reading.ReadAs.{rest, next}
use Rattle.receiver.proofs.Calls.{by_call_lem, some_length, some_bytes, searches_on}
use Rattle.receiver.proofs.Cutting.{cutting}
use Rattle.reader.specs.declared.Listing.{Listing}
use Rattle.reader.specs.Plain.{noted, no_entries, plain, parts_at, parts}
use Rattle.reader.proofs.Ways.{Way, way}
use Rattle.reader.proofs.Ways.Way.{ends, stops, passes, notes}

-- ---- what the way lists, in its order

listed : {b : List ℕ} {at : ℕ} {l f : Listing} → Way b at l f → List (List ℕ)
listed (ends h q w) = []
listed (stops h q w n) = []
listed (passes q v) = listed v
listed {b} {at} (notes n q w h v) = take (suc n) (drop at b) ∷ listed v

parts_more : (b ss ks : List ℕ) (s k : ℕ) → length ss ≡ length ks → parts_at b (ss ++ (s ∷ [])) (ks ++ (k ∷ [])) ≡ parts_at b ss ks ++ (take k (drop s b) ∷ [])
unfolding parts_at
parts_more b [] [] s k e = refl
parts_more b [] (x ∷ ks) s k e = absurd (omega arith)
parts_more b (x ∷ ss) [] s k e = absurd (omega arith)
parts_more b (x ∷ ss) (y ∷ ks) s k e = ap (take y (drop x b) ∷◌) (parts_more b ss ks s k (omega arith))

-- "The list holds 64 entries"
abbrev Room : Listing → Type 0
Room l = (length l.starts ≡ 64) × (length l.lengths ≡ 64)

parts_noted : (b : List ℕ) (l : Listing) (at k : ℕ) → Room l → l.count < 64 → parts b (noted l at k) ≡ parts b l ++ (take k (drop at b) ∷ [])
parts_noted b l at k r h =
    let i : l.count < length l.starts = omega arith in
    let j : l.count < length l.lengths = omega arith in
    let e : length (take l.count l.starts) ≡ length (take l.count l.lengths) = length-take-le l.count l.starts (omega arith) ∙ sym (length-take-le l.count l.lengths (omega arith)) in
    rw (add-one, take-suc-set l.starts l.count at i, take-suc-set l.lengths l.count k j) (parts_more b (take l.count l.starts) (take l.count l.lengths) at k e)

parts_are : {b : List ℕ} {at : ℕ} {l f : Listing} (v : Way b at l f) → Room l → parts b f ≡ parts b l ++ listed v
unfolding listed
parts_are {b} {l = l} (ends h q w) r = sym (append-nil (parts b l))
parts_are {b} {l = l} (stops h q w n) r = sym (append-nil (parts b l))
parts_are (passes q v) r = parts_are v r
parts_are {b} {at} {l} (notes n q w h v) r =
    parts_are v (length-set l.starts l.count at ∙ r.0, length-set l.lengths l.count (suc n) ∙ r.1)
    ∙ ap (◌++ listed v) (parts_noted b l at (suc n) r h) ∙ append_assoc (parts b l) (take (suc n) (drop at b) ∷ []) (listed v)

plain_parts : (b : List ℕ) → parts b (plain b) ≡ listed (way b)
unfolding no_entries parts_at
plain_parts b = parts_are (way b) (refl, refl)

-- ---- the buffer as a stream

-- too few bytes for a header hold no packet
few_whole : (s : List ℕ) → length s < 13 → whole s ≡ 0
unfolding whole
few_whole s h = rw (lt-ltb _ _ h)

few_bytes : (l : List ℕ) → length l < 13 → ReadAs l [] (sought l)
few_bytes l h = rest (few_whole (sought l) (omega (arith, length-drop (noise l) l))) refl

none_at_all : (l : List ℕ) (k : ℕ) → k ≡ 0 → ReadAs (take k l) [] []
unfolding noise
none_at_all l k e = rw e (few_bytes [] (omega arith))

-- a packet that is whole, by itself
is_whole : (s : List ℕ) (n : ℕ) → 13 ≤ length s → size s ≡ n → length s ≡ n → whole s ≡ n
unfolding whole
is_whole s n h z e = rw (le-ltb _ _ h, z, e, le-ltb n n (omega arith))

packet_alone : (l : List ℕ) (n : ℕ) → can_begin l ≡ true → whole l ≡ suc n → ReadAs (take (suc n) l) (take (suc n) l ∷ []) []
packet_alone l n q w =
    let v = whole_is l n w in
    let s = take (suc n) l in
    let k : length s ≡ suc n = length-take-le (suc n) l v.there in
    let h : 13 ≤ length s = omega (arith, k, size_min l, v.sized) in
    let j : s ++ drop (suc n) l ≡ l = take-append-drop (suc n) l in
    let a : can_begin s ≡ true = sym (agrees_long s (drop (suc n) l) front (omega arith)) ∙ ap can_begin j ∙ q in
    let z : size s ≡ suc n = sym (size_more s (drop (suc n) l) h) ∙ ap size j ∙ v.sized in
    let o : sought s ≡ s = ap (λ (i : ℕ). drop i s) (noise_none s a) in
    let d : drop (suc n) (sought s) ≡ [] = ap (drop (suc n)) o ∙ drop_of_length-le s {i = suc n} (omega arith) in
    next n (ap whole o ∙ is_whole s (suc n) h z k) (ap (take (suc n)) o ∙ take_all (suc n) s (omega arith)) (subst (λ (x : List ℕ). ReadAs x [] []) (sym d) (none_at_all [] 0 refl))

-- a byte that can begin nothing
skipped : (l : List ℕ) → can_begin l ≡ false → sought l ≡ sought (drop 1 l)
unfolding noise agrees
skipped [] q = absurd (false_true (sym q))
skipped (x ∷ l) q = rw q

skip : {l m t : List ℕ} {os : List (List ℕ)} → sought l ≡ sought m → ReadAs m os t → ReadAs l os t
skip k (rest e r) = rest (ap whole k ∙ e) (k ∙ r)
skip {t = t} k (next {os = os} n e r a) = next n (ap whole k ∙ e) (ap (take (suc n)) k ∙ r) (subst (λ (x : List ℕ). ReadAs (drop (suc n) x) os t) (sym k) a)

behind_first : (l : List ℕ) (k : ℕ) → drop 1 (take (suc k) l) ≡ take k (drop 1 l)
behind_first [] k = sym (take-nil k)
behind_first (x ∷ l) k = refl

-- at the front of a part of a stream such a byte may look as if a packet began, and yet none is in so short a part
module _ (l : List ℕ) (k : ℕ) (q : can_begin l ≡ false) where
  seen_late : can_begin (take (suc k) l) ≡ true → length (take (suc k) l) < 6
  seen_late e = go (ltb (length (take (suc k) l)) 6) refl
    where
      go : (c : Bool) → ltb (length (take (suc k) l)) 6 ≡ c → length (take (suc k) l) < 6
      go true i = ltb-true (length (take (suc k) l)) 6 i
      go false i =
          absurd (false_true (sym q ∙ ap can_begin (sym (take-append-drop (suc k) l)) ∙ agrees_long (take (suc k) l) (drop (suc k) l) front (ltb-false (length (take (suc k) l)) 6 i) ∙ e))

  noise_front : {os : List (List ℕ)} {t : List ℕ} → ReadAs (take k (drop 1 l)) os t → (u : List ℕ) × ReadAs (take (suc k) l) os u
  noise_front {os} {t} p = go (can_begin (take (suc k) l)) refl
    where
      go : (c : Bool) → can_begin (take (suc k) l) ≡ c → (u : List ℕ) × ReadAs (take (suc k) l) os u
      go false e = (t, skip (skipped (take (suc k) l) e ∙ ap sought (behind_first l k)) p)
      go true e =
          let h = seen_late e in
          let o = (one_reading p (few_bytes (take k (drop 1 l)) (omega (arith, ap length (behind_first l k), length-drop 1 (take (suc k) l))))).0 in
          (sought (take (suc k) l), subst (λ (us : List (List ℕ)). ReadAs (take (suc k) l) us (sought (take (suc k) l))) (sym o) (few_bytes (take (suc k) l) (omega arith)))

-- up to where the reader ends
reads : {b : List ℕ} {at : ℕ} {l f : Listing} (v : Way b at l f) → (at ≤ f.end) × ((t : List ℕ) × ReadAs (take (f.end - at) (drop at b)) (listed v) t)
unfolding listed
reads {b} {at} (ends h q w) = (omega arith, ([], none_at_all (drop at b) (at - at) (omega arith)))
reads {b} {at} (stops h q w n) = (omega arith, ([], none_at_all (drop at b) (at - at) (omega arith)))
reads {b} {at} {f = f} (passes q v) =
    let r = reads v in
    let k : f.end - at ≡ suc (f.end - (at + 1)) = omega (arith, r.0) in
    let p = noise_front (drop at b) (f.end - (at + 1)) q (subst (λ (x : List ℕ). ReadAs (take (f.end - (at + 1)) x) (listed v) r.1.0) (sym (drop-drop 1 at b)) r.1.1) in
    (omega (arith, r.0), (p.0, subst (λ (i : ℕ). ReadAs (take i (drop at b)) (listed v) p.0) (sym k) p.1))
reads {b} {at} {f = f} (notes n q w h v) =
    let r = reads v in
    let m = f.end - (at + suc n) in
    let k : f.end - at ≡ suc n + m = omega (arith, r.0) in
    let o = take (suc n) (drop at b) in
    let j : take (f.end - at) (drop at b) ≡ o ++ take m (drop (at + suc n) b) =
    ap (λ (i : ℕ). take i (drop at b)) k ∙ take-add (suc n) m (drop at b) ∙ ap (λ (x : List ℕ). o ++ take m x) (drop-drop (suc n) at b) in
    let p = read_on (take m (drop (at + suc n) b)) r.1.0 (listed v) (packet_alone (drop at b) n q w) r.1.1 in
    (omega (arith, r.0), (r.1.0, subst (λ (x : List ℕ). ReadAs x (o ∷ listed v) r.1.0) (sym j) p))

-- where it did not stop, the whole buffer, and the tail is left
sought_here : (l : List ℕ) → can_begin l ≡ true → sought l ≡ l
sought_here l q = ap (λ (i : ℕ). drop i l) (noise_none l q)

reads_all : {b : List ℕ} {at : ℕ} {l f : Listing} (v : Way b at l f) → f.stopped ≡ 0 → ReadAs (drop at b) (listed v) (drop f.end b)
unfolding listed
reads_all {b} {at} (ends h q w) s = let o = sought_here (drop at b) q in rest (ap whole o ∙ w) o
reads_all (stops h q w n) s = absurd (omega arith)
reads_all {b} {at} {f = f} (passes q v) s =
    skip (skipped (drop at b) q) (subst (λ (x : List ℕ). ReadAs x (listed v) (drop f.end b)) (sym (drop-drop 1 at b)) (reads_all v s))
reads_all {b} {at} {f = f} (notes n q w h v) s =
    let o = sought_here (drop at b) q in
    let d : drop (suc n) (sought (drop at b)) ≡ drop (at + suc n) b = ap (drop (suc n)) o ∙ drop-drop (suc n) at b in
    next n (ap whole o ∙ w) (ap (take (suc n)) o) (subst (λ (x : List ℕ). ReadAs x (listed v) (drop f.end b)) (sym d) (reads_all v s))

-- ---- a stream, given to a receiver

fed_as : {l t : List ℕ} {os : List (List ℕ)} (r : Receiver) (p : List ℕ) → ReadAs l os t → held_in r ++ p ≡ l → Feeds r p os (holding t)
fed_as r p (rest e q) i =
    let g = by_call_lem r p (λ g. (g.packet ≡ []) × (g.after ≡ holding (sought (held_in r ++ p)))) (λ z. (refl, refl)) (λ n z. absurd (omega (arith, z, ap (λ (x : List ℕ). whole (sought x)) i ∙ e))) in
    subst (Feeds r p []) (g.1 ∙ ap holding (ap sought i ∙ q)) (last g.0)
fed_as {t = t} r p (next {os = os} n e q a) i =
    let w : whole (sought (held_in r ++ p)) ≡ suc n = ap (λ (x : List ℕ). whole (sought x)) i ∙ e in
    let g = by_call_lem r p (λ g. g.packet ≡ take (suc n) (sought (held_in r ++ p))) (λ z. absurd (omega (arith, z, w))) (λ m z. ap (λ (k : ℕ). take k (sought (held_in r ++ p))) (sym z ∙ w)) in
    let k : length (given r p).packet ≡ suc n = ap length g ∙ some_length r p n w in
    let s = searches_on r p ∙ ap (λ (j : ℕ). drop j (sought (held_in r ++ p))) k ∙ ap (λ (x : List ℕ). drop (suc n) (sought x)) i in
    subst (λ (o : List ℕ). Feeds r p (o ∷ os) (holding t)) (g ∙ ap (λ (x : List ℕ). take (suc n) (sought x)) i ∙ q)
    (more (λ z. some_bytes r p n w (sym g ∙ z)) (fed_as (given r p).after (drop (given r p).taken p) a s))

cuts_as : {l t : List ℕ} {r : Receiver} {ps os us : List (List ℕ)} → ReadAs l us t → joined ps ≡ l → Cuts (holding []) ps os r → (os ≡ us) × (r ≡ holding t)
unfolding held_in holding
cuts_as {l} a e c = cutting c (one (fed_as (holding []) l a refl)) (e ∙ sym (append-nil l))

-- ---- "§1's receiver, empty at first and fed in any cutting the bytes up to where the plain reader stops, hands out the same things in
-- the same order"

pub beside : (b : List ℕ) {r : Receiver} {ps os : List (List ℕ)} → joined ps ≡ take (plain b).end b → Cuts (holding []) ps os r → os ≡ parts b (plain b)
beside b e c =
    let k : (plain b).end - 0 ≡ (plain b).end = omega arith in
    (cuts_as (reads (way b)).1.1 (e ∙ ap (λ (i : ℕ). take i b) (sym k)) c).0 ∙ sym (plain_parts b)

-- and where it did not stop at a 65th, fed all the bytes it hands out no more, and holds the tail
pub beside_all : (b : List ℕ) {r : Receiver} {ps os : List (List ℕ)} → (plain b).stopped ≡ 0 → joined ps ≡ b → Cuts (holding []) ps os r
    → (os ≡ parts b (plain b)) × (r ≡ holding (drop (plain b).end b))
beside_all b s e c = let a = cuts_as (reads_all (way b) s) e c in (a.0 ∙ sym (plain_parts b), a.1)
