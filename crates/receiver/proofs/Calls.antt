-- One call, sentence by sentence of §1, whatever the record holds and whatever the piece: a call either holds all that stands behind the
-- noise, or hands out what is whole there.
use Prim.Native.Nat.{ℕ, zero, suc, ◌+◌, ◌-◌, ◌≤◌, ◌<◌}
use native.Mathlib.Omega.{arith}
use native.Mathlib.Nat.{le_refl}
use mathlib.Core.Bool.{Bool, true, false, cond}
use mathlib.Core.Path.{◌≡◌, refl, sym, ap, subst, ◌∙◌}
use mathlib.Core.List.{List, [], ◌∷◌, ◌++◌, append-nil}
use lib.ListN.{length, take, drop, replicate, length-append, length-drop, length-take, length-replicate, take-append-drop}
use lib.Seq.{take-append_seam, drop-append_seam, take-length, drop-length, take-add, drop-drop, length-take-le}
use lib.Dec.{leb}
use borrow.Author.Tests.{le-leb, lt-leb, leb-true, le-ltb, lt-ltb}
use Rattle.sdcp_asks.specs.Asks.{front, data_length_of, is_ours}
use Rattle.receiver.specs.declared.Receiver.{Receiver}
use Rattle.receiver.specs.Stream.{can_begin, noise, sought, size, size_of, whole}
use Rattle.receiver.specs.Calls.{Given, holding, held_in, handed, given}
use Rattle.receiver.proofs.Stream.{agrees_long, noise_dropped, noise_le, sought_begins, Whole, whole_is, whole_waits, whole_not, size_min, size_more}
use Rattle.receiver.proofs.Front.{begins_agrees}

-- ---- the bytes held

held_holding : (l : List ℕ) → length l ≤ 512 → held_in (holding l) ≡ l
unfolding held_in holding
held_holding l h = rw (le-leb _ _ h) (take-append_seam l _)

pub front_le : (n : ℕ) (l : List ℕ) → n ≤ 512 → length (take n l) ≤ 512
front_le n l h = omega (arith, length-take n l)

held_le : (r : Receiver) → length (held_in r) ≤ 512
unfolding held_in
held_le r = go (leb r.held 512) refl
  where
    go : (b : Bool) → leb r.held 512 ≡ b → length (cond b (take r.held r.store) []) ≤ 512
    go true e = front_le r.held r.store (leb-true r.held 512 e)
    go false e = omega arith

pub holds : (r : Receiver) → r.held ≤ 512 → take r.held r.store ≡ held_in r
unfolding held_in
holds r h = rw (le-leb _ _ h)

pub claims_more : (r : Receiver) → 512 < r.held → [] ≡ held_in r
unfolding held_in
claims_more r h = rw (lt-leb _ _ h)

abbrev Tidy : Receiver → Type 0
Tidy r = (r.held ≤ 512) × (length r.store ≡ 512) × (drop r.held r.store ≡ replicate (512 - r.held) 0)

holding_tidy : (l : List ℕ) → length l ≤ 512 → Tidy (holding l)
unfolding holding
holding_tidy l h = (h, length-append l (replicate (512 - length l) 0) ∙ ap (length l +◌) (length-replicate (512 - length l) 0) ∙ omega arith, drop-append_seam l (replicate (512 - length l) 0))

-- the bytes held are all that a call sees of a record: what stands behind them does not matter
pub held_alone : (r s : Receiver) (p : List ℕ) → held_in r ≡ held_in s → given r p ≡ given s p
unfolding given
held_alone r s p e = ap (λ (h : List ℕ). handed (whole (sought (h ++ p))) (noise (h ++ p)) h p) e

-- "one that claims to hold more is emptied first"
pub emptied : (r : Receiver) (p : List ℕ) → 512 < r.held → given r p ≡ given (holding []) p
emptied r p h = held_alone r (holding []) p (sym (claims_more r h) ∙ sym (held_holding [] (omega arith)))

-- ---- two lists in a row

-- all but the first c
pub drop_both : (h p : List ℕ) (c : ℕ) → drop c h ++ drop (c - length h) p ≡ drop c (h ++ p)
drop_both [] p zero = refl
drop_both [] p (suc c) = let e : suc c - 0 ≡ suc c = omega arith in ap (λ (k : ℕ). drop k p) e
drop_both (x ∷ h) p zero = let e : 0 - suc (length h) ≡ 0 = omega arith in ap (λ (k : ℕ). x ∷ h ++ drop k p) e
drop_both (x ∷ h) p (suc c) = let e : suc c - suc (length h) ≡ c - length h = omega arith in ap (λ (k : ℕ). drop c h ++ drop k p) e ∙ drop_both h p c

-- the first list, and of the second what the first c have of it
drop_behind : (h p : List ℕ) (c : ℕ) → h ++ take (c - length h) p ≡ take c (h ++ p) ++ drop c h
drop_behind [] p zero = refl
drop_behind [] p (suc c) = let e : suc c - 0 ≡ suc c = omega arith in ap (λ (k : ℕ). take k p) e ∙ sym (append-nil (take (suc c) p))
drop_behind (x ∷ h) p zero = let e : 0 - suc (length h) ≡ 0 = omega arith in ap (λ (k : ℕ). x ∷ h ++ take k p) e ∙ append-nil (x ∷ h)
drop_behind (x ∷ h) p (suc c) = let e : suc c - suc (length h) ≡ c - length h = omega arith in ap (x ∷◌) (ap (λ (k : ℕ). h ++ take k p) e ∙ drop_behind h p c)

-- ---- a packet that stands whole at the front

abbrev IsWhole : List ℕ → Type 0
IsWhole o = (is_ours o ≡ true) × (13 ≤ length o) × (data_length_of o ≤ 499 → length o ≡ 13 + data_length_of o) × (499 < data_length_of o → length o ≡ 13)

sized : (o : List ℕ) (n : ℕ) → n ≡ size o → (data_length_of o ≤ 499 → n ≡ 13 + data_length_of o) × (499 < data_length_of o → n ≡ 13)
unfolding size_of
sized o n e = ((λ h. e ∙ rw (le-ltb _ _ h)), (λ h. e ∙ rw (lt-ltb _ _ h)))

packet_whole : (s : List ℕ) (n : ℕ) → can_begin s ≡ true → Whole s (suc n) → IsWhole (take (suc n) s)
unfolding is_ours
packet_whole s n b w =
    let o = take (suc n) s in
    let l : length o ≡ suc n = length-take-le (suc n) s w.there in
    let h : 13 ≤ length o = omega (arith, l, w.sized, size_min s) in
    let j : o ++ drop (suc n) s ≡ s = take-append-drop (suc n) s in
    let z : length o ≡ size o = l ∙ sym w.sized ∙ ap size (sym j) ∙ size_more o (drop (suc n) s) h in
    let f : length front ≤ length o = omega (arith, h) in
    let q = sized o (length o) z in
    (begins_agrees o front f ∙ sym (agrees_long o (drop (suc n) s) front f) ∙ ap can_begin j ∙ b, h, q.0, q.1)

-- ---- a call

module _ (r : Receiver) (p : List ℕ) where
  -- the bytes that a call reads
  abbrev read : List ℕ
  read = held_in r ++ p

  abbrev none : Given
  none = record { after = holding (sought read); taken = length p; packet = [] }

  abbrev some : ℕ → Given
  some n = record { after = holding (drop (noise read + n) (held_in r)); taken = noise read + n - length (held_in r); packet = take n (sought read) }

  pub by_call_lem : (P : Given → Type 0) → (whole (sought read) ≡ 0 → P none) → ((n : ℕ) → whole (sought read) ≡ suc n → P (some (suc n))) → P (given r p)
  unfolding given handed
  by_call_lem P f g = go (whole (sought read)) refl
    where
      go : (w : ℕ) → whole (sought read) ≡ w → P (handed w (noise read) (held_in r) p)
      go zero e = f e
      go (suc n) e = g n e

  -- what is handed out has bytes, as many as the header says
  pub some_length : (n : ℕ) → whole (sought read) ≡ suc n → length (take (suc n) (sought read)) ≡ suc n
  some_length n e = length-take-le (suc n) (sought read) (whole_is (sought read) n e).there

  pub some_bytes : (n : ℕ) → whole (sought read) ≡ suc n → take (suc n) (sought read) ≡ [] → ⊥
  some_bytes n e z = omega (arith, some_length n e, ap length z)

  -- what is held on of the bytes held
  held_on : (c : ℕ) → held_in (holding (drop c (held_in r))) ≡ drop c (held_in r)
  held_on c = held_holding (drop c (held_in r)) (omega (arith, length-drop c (held_in r), held_le r))

  pub held_all : whole (sought read) ≡ 0 → held_in (holding (sought read)) ≡ sought read
  held_all e = held_holding (sought read) (omega (arith, whole_not (sought read) e))

  -- no more is handed out than was there
  pub packet_le : length (given r p).packet ≤ length read
  packet_le = by_call_lem (λ g. length g.packet ≤ length read) (λ e. omega arith)
      (λ n e. omega (arith, some_length n e, (whole_is (sought read) n e).there, length-drop (noise read) read))

  -- ---- what a call takes

  -- "says how many it took"
  pub takes_in : (given r p).taken ≤ length p
  takes_in = by_call_lem (λ g. g.taken ≤ length p) (λ e. le_refl (length p))
      (λ n e. omega (arith, (whole_is (sought read) n e).there, length-drop (noise read) read, noise_le read, length-append (held_in r) p))

  -- "one that hands out nothing has taken the whole piece"
  pub none_takes_all : (given r p).packet ≡ [] → (given r p).taken ≡ length p
  none_takes_all = by_call_lem (λ g. g.packet ≡ [] → g.taken ≡ length p) (λ e z. refl) (λ n e z. absurd (some_bytes n e z))

  -- every byte that was held or taken is noise, handed out or held: none is lost, and "a call takes no byte past what it hands out"
  pub accounts : held_in r ++ take (given r p).taken p ≡ take (noise read) read ++ (given r p).packet ++ held_in (given r p).after
  accounts = by_call_lem (λ g. held_in r ++ take g.taken p ≡ take (noise read) read ++ g.packet ++ held_in g.after)
      (λ e. ap (held_in r ++◌) (take-length p) ∙ sym (take-append-drop (noise read) read) ∙ ap (◌++ sought read) (sym (append-nil (take (noise read) read)))
      ∙ ap (take (noise read) read ++ [] ++◌) (sym (held_all e)))
      (λ n e. drop_behind (held_in r) p (noise read + suc n) ∙ ap (◌++ drop (noise read + suc n) (held_in r)) (take-add (noise read) (suc n) read)
      ∙ ap (take (noise read) read ++ take (suc n) (sought read) ++◌) (sym (held_on (noise read + suc n))))

  -- where a packet ends in the piece, nothing is held
  pub none_held : ((given r p).packet ≡ [] → ⊥) → 0 < (given r p).taken → (given r p).after ≡ holding []
  none_held = by_call_lem (λ g. (g.packet ≡ [] → ⊥) → 0 < g.taken → g.after ≡ holding []) (λ e n h. absurd (n refl))
      (λ n e f h. ap holding (drop_behind_all (held_in r) (noise read + suc n) h))
    where
      drop_behind_all : (l : List ℕ) (c : ℕ) → 0 < c - length l → drop c l ≡ []
      drop_behind_all [] zero h = refl
      drop_behind_all [] (suc c) h = refl
      drop_behind_all (x ∷ l) zero h = absurd (omega arith)
      drop_behind_all (x ∷ l) (suc c) h = drop_behind_all l c (omega arith)

  -- "and it searches on": what is held and the piece's rest are what stands behind what was handed out
  pub searches_on : held_in (given r p).after ++ drop (given r p).taken p ≡ drop (length (given r p).packet) (sought read)
  searches_on = by_call_lem (λ g. held_in g.after ++ drop g.taken p ≡ drop (length g.packet) (sought read))
      (λ e. ap (held_in (holding (sought read)) ++◌) (drop-length p) ∙ append-nil (held_in (holding (sought read))) ∙ held_all e)
      (λ n e. ap (◌++ drop (noise read + suc n - length (held_in r)) p) (held_on (noise read + suc n)) ∙ drop_both (held_in r) p (noise read + suc n)
      ∙ sym (drop-drop (suc n) (noise read) read) ∙ ap (λ (k : ℕ). drop k (sought read)) (sym (some_length n e)))

  -- ---- what is held after a call

  pub after_holds : (given r p).after ≡ holding (held_in (given r p).after)
  after_holds = by_call_lem (λ g. g.after ≡ holding (held_in g.after)) (λ e. ap holding (sym (held_all e))) (λ n e. ap holding (sym (held_on (noise read + suc n))))

  -- "It holds at most 512 bytes", "after each call its store is 0 behind the bytes held"
  pub zeros_behind : ((given r p).after.held ≤ 512) × (length (given r p).after.store ≡ 512) × (drop (given r p).after.held (given r p).after.store ≡ replicate (512 - (given r p).after.held) 0)
  zeros_behind = subst Tidy (sym after_holds) (holding_tidy (held_in (given r p).after) (held_le (given r p).after))

  -- a call that hands out nothing holds less than 512, so the next byte can always be held
  pub room_left : (given r p).packet ≡ [] → (given r p).after.held < 512
  unfolding holding
  room_left = by_call_lem (λ g. g.packet ≡ [] → g.after.held < 512) (λ e z. whole_not (sought read) e) (λ n e z. absurd (some_bytes n e z))

  -- "with 13 bytes it knows the length": with so many it holds on only while the packet's end is not there
  pub knows_length : (given r p).packet ≡ [] → 13 ≤ length (held_in (given r p).after) → (data_length_of (held_in (given r p).after) ≤ 499) × (length (held_in (given r p).after) < 13 + data_length_of (held_in (given r p).after))
  knows_length = by_call_lem (λ g. g.packet ≡ [] → 13 ≤ length (held_in g.after) → (data_length_of (held_in g.after) ≤ 499) × (length (held_in g.after) < 13 + data_length_of (held_in g.after)))
      (λ e z. rw (held_all e) (whole_waits (sought read) e)) (λ n e z. absurd (some_bytes n e z))

  -- ---- what is dropped, and what is handed out

  -- "It drops bytes one by one until the next bytes can begin 03h 0Bh "SONY""
  pub drops_noise : (i : ℕ) → i < noise read → can_begin (drop i read) ≡ false
  drops_noise = noise_dropped read

  pub can_begin_lem : (given r p).packet ≡ [] → can_begin (held_in (given r p).after) ≡ true
  can_begin_lem = by_call_lem (λ g. g.packet ≡ [] → can_begin (held_in g.after) ≡ true) (λ e z. ap can_begin (held_all e) ∙ sought_begins read) (λ n e z. absurd (some_bytes n e z))

  -- "gives whole packets", "With a length over 499 just those 13 bytes are handed out as a message [..]. Other packets are handed out whole"
  pub whole_packet : ((given r p).packet ≡ [] → ⊥)
      → (is_ours (given r p).packet ≡ true) × (13 ≤ length (given r p).packet)
      × (data_length_of (given r p).packet ≤ 499 → length (given r p).packet ≡ 13 + data_length_of (given r p).packet)
      × (499 < data_length_of (given r p).packet → length (given r p).packet ≡ 13)
  whole_packet = by_call_lem (λ g. (g.packet ≡ [] → ⊥) → IsWhole g.packet) (λ e n. absurd (n refl)) (λ n e f. packet_whole (sought read) n (sought_begins read) (whole_is (sought read) n e))
