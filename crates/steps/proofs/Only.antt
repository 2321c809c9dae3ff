-- "each is given only when its stated condition holds": what an answer's number says of the box and the message, in words of the record and
-- the bytes, and that no check before it applied. The answer is the number of the first condition that holds (`checked`).
use Prim.Native.Nat.{ℕ, zero, suc, ◌%◌, ◌<◌, ◌≤◌}
use mathlib.Core.Path.{◌≡◌, refl, sym, ap, subst, ◌∙◌}
use mathlib.Core.Bool.{Bool, true, false, not, cond, ◌&&◌, ◌||◌, or-true}
use mathlib.Core.List.{List, [], ◌∷◌}
use native.Mathlib.Omega.{arith}
use lib.Dec.{eqb, ltb}
use lib.ListN.{length, get_or}
use borrow.Author.Tests.{eqb-true, eqb-false, eq-eqb, ltb-true, ltb-false, not-true, not-false, ne_eqb}
use Rattle.laws.specs.Lists.{listed}
use Rattle.laws.proofs.Conditions.{and_first, and_second, false_true}
use Rattle.terms.specs.Answers.{part_number, number_of}
use Rattle.terms.specs.declared.Part.{Part}
use Rattle.terms.specs.declared.Part.TheVariants.{Request, Item, TooLong, NotMatching, Count, Checksum}
use Rattle.std.specs.Prelude.{Ok, Err}
use Rattle.panels.specs.Records.{family_w, family_k}
use Rattle.panels.specs.Valid.{valid}
use Rattle.panels.specs.declared.DisplayBox.{DisplayBox}
use Rattle.configure.specs.Configure.{asked, refusal, configured}
use Rattle.terms.specs.declared.Answer.TheVariants.{Done, PartWrong}
use Rattle.rs232c_asks.specs.Asks as serialAsks
use Rattle.rs232c_asks.proofs.Envelopes as serialEnvelopes
use Rattle.rs232c_asks.specs.declared.Order as serialOrder
use Rattle.kjw_asks.specs.Asks as frameAsks
use Rattle.kjw_sets.specs.declared.Order as frameOrder
use Rattle.kjw_asks.specs.declared.Fault.TheVariants as frameIs
use Rattle.vmc_asks.specs.Asks.{asks_status}
use Rattle.sdcp_asks.specs.Asks as packetAsks
use Rattle.sdcp_asks.proofs.Envelopes as packetEnvelopes
use Rattle.sdcp_asks.proofs.Cast.{cast_plain}
use Rattle.vmc_asks.specs.declared.Order as wordOrder
use Rattle.sdcp_asks.specs.declared.Fault.TheVariants as packetIs
use Rattle.steps.specs.Messages.{Message, rs232c, kjw, tcp, udp, Name, nobody, names}
use Rattle.steps.specs.Addressing.{target, is_called, addressed, any_called}
use Rattle.steps.specs.Step.{checks, panel_at, step}
use Rattle.steps.proofs.Door.{Lends, by_rs232c, by_kjw, by_tcp_lem}
use Rattle.steps.proofs.Refusals.{none_called, no_target}
use Rattle.steps.proofs.Stays.{neither}
use Rattle.steps.proofs.Judged.{first_of, serial_unclear_lem, serial_clear, packet_unclear_lem, packet_clear, frame_unclear_lem, frame_clear}
use Rattle.steps.proofs.Checks.{has_panel, conditions, checked}
use Rattle.steps.proofs.Parts.{Broken, Told, told}

-- ---- the stated conditions

-- 1: "reply area under 512 bytes"
pub data Small : Message → Type 0 where
  under_512 : {l : ℕ} {area : List ℕ} {m : Message} → Lends l area m → length area < 512 → Small m

-- the family that a way in speaks to
abbrev pub family_of : Message → ℕ
family_of (rs232c l m area) = family_w
family_of (kjw l m area) = family_k
family_of (tcp l m area) = family_w
family_of (udp m) = family_w

-- 2: "no panel with that link number, or it is of the other family"; a box that breaks the rules "is answered as a box of no panels"
pub data Missing (b : DisplayBox) (family : ℕ) : ℕ → Type 0 where
  link_zero : Missing b family 0
  above_count : {i : ℕ} → b.count ≤ i → Missing b family (suc i)
  other_family : {i : ℕ} → ((panel_at i b).family ≡ family → ⊥) → Missing b family (suc i)
  breaks_rules : {l : ℕ} → valid b ≡ false → Missing b family l

pub data NoPanel (b : DisplayBox) : Message → Type 0 where
  no_panel : {l : ℕ} {area : List ℕ} {m : Message} → Lends l area m → 512 ≤ length area → Missing b (family_of m) l → NoPanel b m

-- neither 1 nor 2: room for a reply, and a panel of the way's family on the link of a box that keeps the rules; "UDP skips 1 and 2."
pub data LetIn (b : DisplayBox) : Message → Type 0 where
  on_link_lem : {i : ℕ} {area : List ℕ} {m : Message} → Lends (suc i) area m → 512 ≤ length area → valid b ≡ true → i < b.count → (panel_at i b).family ≡ family_of m → LetIn b m
  skipped : {m : List ℕ} → LetIn b (udp m)

-- 3: "too short to be a message, or wrong fixed length"
abbrev pub BadLength : Message → Type 0
BadLength (rs232c l m area) = length m < 6
BadLength (kjw l m area) = length m ≡ 24 → ⊥
BadLength (tcp l m area) = length m < 13
BadLength (udp m) = length m < 13

-- 4: "not for us", by SDCP "Wrong version, category or community, or no panel addressed"
pub data NotOurs (b : DisplayBox) (x : Message) (m : List ℕ) : Type 0 where
  wrong_front : packetAsks.is_ours m ≡ false → NotOurs b x m
  to_nobody_lem : ((i : ℕ) → addressed (names b) x i ≡ false) → NotOurs b x m

abbrev pub Foreign : DisplayBox → Message → Type 0
Foreign b (rs232c l m area) = serialAsks.is_foreign m ≡ true
Foreign b (kjw l m area) = frameAsks.is_ours m ≡ false
Foreign b (tcp l m area) = NotOurs b (tcp l m area) m
Foreign b (udp m) = NotOurs b (udp m) m

-- document 02, §8: an envelope with no part that is wrong; KJW has none
abbrev pub Whole : Message → Type 0
Whole (rs232c l m area) = serialEnvelopes.Whole m
Whole (kjw l m area) = Unit {0}
Whole (tcp l m area) = packetEnvelopes.Whole m
Whole (udp m) = packetEnvelopes.Whole m

-- 8: document 02, §5, "came by UDP, and the trimmed data is STATget alone or begins with STATget and a space"
abbrev pub Asking : Message → Type 0
Asking (rs232c l m area) = ⊥
Asking (kjw l m area) = ⊥
Asking (tcp l m area) = ⊥
Asking (udp m) = asks_status (packetAsks.data_of m) ≡ true

-- 6: "contents not understood"
abbrev pub Unclear : Message → Type 0
Unclear (rs232c l m area) = (s : ℕ) × (serialAsks.heard_of m ≡ serialAsks.not_understood s)
Unclear (kjw l m area) = frameAsks.heard_of m ≡ Err frameIs.NotUnderstood
Unclear (tcp l m area) = packetAsks.heard_of m ≡ Err packetIs.NotUnderstood
Unclear (udp m) = packetAsks.cast_of m ≡ Err packetIs.NotUnderstood

-- 0: an order was understood
abbrev pub Clear : Message → Type 0
Clear (rs232c l m area) = (s : ℕ) × (o : serialOrder.Order) × (serialAsks.heard_of m ≡ serialAsks.understood s o)
Clear (kjw l m area) = (o : frameOrder.Order) × (frameAsks.heard_of m ≡ Ok o)
Clear (tcp l m area) = (o : wordOrder.Order) × (packetAsks.heard_of m ≡ Ok o)
Clear (udp m) = (o : wordOrder.Order) × (packetAsks.cast_of m ≡ Ok o)

-- ---- the first that holds

-- no number is 0, and none stands twice
abbrev single : List ℕ → Bool
single [] = true
single (n ∷ ns) = ltb 0 n && (not (listed ns n) && single ns)

-- what `single` says of the first number and of the others
record Alone (n : ℕ) (ns : List ℕ) : Type 0 where
  above : 0 < n
  once : listed ns n ≡ false
  others : single ns ≡ true

alone : (n : ℕ) (ns : List ℕ) → single (n ∷ ns) ≡ true → Alone n ns
alone n ns e =
    let r = and_second (ltb 0 n) (not (listed ns n) && single ns) e in
    record {
      above = ltb-true 0 n (and_first (ltb 0 n) (not (listed ns n) && single ns) e);
      once = not-true (listed ns n) (and_first (not (listed ns n)) (single ns) r);
      others = and_second (not (listed ns n)) (single ns) r;
    }

-- a number that is not among them is not given
absent : (ns : List ℕ) (cs : List Bool) (n : ℕ) → 0 < n → listed ns n ≡ false → first_of ns cs ≡ n → ⊥
absent [] cs n h l e = omega arith
absent (x ∷ ns) [] n h l e = omega arith
absent (x ∷ ns) (true ∷ cs) n h l e = false_true (sym (neither (eqb n x) (listed ns n) l).0 ∙ eq-eqb n x (sym e))
absent (x ∷ ns) (false ∷ cs) n h l e = absent ns cs n h (neither (eqb n x) (listed ns n) l).1 e

-- a number at a place is among them, and not 0
there_listed : (ns : List ℕ) (k : ℕ) → k < length ns → listed ns (get_or ns k 0) ≡ true
there_listed [] k h = absurd (omega arith)
there_listed (n ∷ ns) zero h = rw (eq-eqb n n refl)
there_listed (n ∷ ns) (suc k) h = rw (there_listed ns k (omega arith)) (or-true (eqb (get_or ns k 0) n))

there_above : (ns : List ℕ) (k : ℕ) → single ns ≡ true → k < length ns → 0 < get_or ns k 0
there_above [] k s h = absurd (omega arith)
there_above (n ∷ ns) zero s h = (alone n ns s).above
there_above (n ∷ ns) (suc k) s h = there_above ns k (alone n ns s).others (omega arith)

-- the condition at place k holds, and none before it
record Fires (cs : List Bool) (k : ℕ) : Type 0 where
  holds : get_or cs k false ≡ true
  none_before : (j : ℕ) → j < k → get_or cs j false ≡ false

later : {cs : List Bool} {k : ℕ} → Fires cs k → Fires (false ∷ cs) (suc k)
later {cs} {k} t = record { holds = t.holds; none_before = go }
  where
    go : (j : ℕ) → j < suc k → get_or (false ∷ cs) j false ≡ false
    go zero i = refl
    go (suc j) i = t.none_before j (omega arith)

fires : (ns : List ℕ) (cs : List Bool) (k : ℕ) → single ns ≡ true → k < length ns → first_of ns cs ≡ get_or ns k 0 → Fires cs k
fires [] cs k s h e = absurd (omega arith)
fires (n ∷ ns) [] k s h e = let z = there_above (n ∷ ns) k s h in absurd (omega (arith, z, e))
fires (n ∷ ns) (true ∷ cs) zero s h e = record { holds = refl; none_before = λ j i. absurd (omega arith) }
fires (n ∷ ns) (true ∷ cs) (suc k) s h e = absurd (false_true (sym (alone n ns s).once ∙ ap (listed ns) e ∙ there_listed ns k (omega arith)))
fires (n ∷ ns) (false ∷ cs) zero s h e = let a = alone n ns s in absurd (absent ns cs n a.above a.once e)
fires (n ∷ ns) (false ∷ cs) (suc k) s h e = later (fires ns cs k (alone n ns s).others (omega arith) e)

-- none holds
none : (ns : List ℕ) (cs : List Bool) → single ns ≡ true → length cs ≤ length ns → first_of ns cs ≡ 0 → (j : ℕ) → get_or cs j false ≡ false
none ns [] s h e j = refl
none [] (c ∷ cs) s h e j = absurd (omega arith)
none (n ∷ ns) (true ∷ cs) s h e j = let a = (alone n ns s).above in absurd (omega (arith, a, e))
none (n ∷ ns) (false ∷ cs) s h e zero = refl
none (n ∷ ns) (false ∷ cs) s h e (suc j) = none ns cs (alone n ns s).others (omega arith) e j

-- ---- a condition says what it states

pub uncalled : (m : List ℕ) (ns : List Name) → any_called m ns ≡ false → (i : ℕ) → is_called m (get_or ns i nobody) ≡ false
unfolding is_called
uncalled m [] n i = refl
uncalled m (x ∷ ns) n zero = (neither (is_called m x) (any_called m ns) n).0
uncalled m (x ∷ ns) n (suc i) = uncalled m ns (neither (is_called m x) (any_called m ns) n).1 i

module _ (b : DisplayBox) where
  abbrev at : Message → ℕ → Bool
  at m k = get_or (conditions b m) k false

  small : (m : Message) → at m 0 ≡ true → Small m
  small (rs232c l m area) e = under_512 (by_rs232c m) (ltb-true (length area) 512 e)
  small (kjw l m area) e = under_512 (by_kjw m) (ltb-true (length area) 512 e)
  small (tcp l m area) e = under_512 (by_tcp_lem m) (ltb-true (length area) 512 e)
  small (udp m) e = absurd (false_true e)

  missing : (family l : ℕ) → not (has_panel b l family) ≡ true → Missing b family l
  missing family zero e = link_zero
  missing family (suc i) e = go (valid b) (ltb i b.count) (eqb (panel_at i b).family family) refl refl refl (not-true (has_panel b (suc i) family) e)
    where
      go : (v c f : Bool) → valid b ≡ v → ltb i b.count ≡ c → eqb (panel_at i b).family family ≡ f → (v && c && f) ≡ false → Missing b family (suc i)
      go false c f v c' f' n = breaks_rules v
      go true false f v c' f' n = above_count (ltb-false i b.count c')
      go true true f v c' f' n = other_family (eqb-false (panel_at i b).family family (f' ∙ n))

  no_panel_here : (m : Message) → at m 0 ≡ false → at m 1 ≡ true → NoPanel b m
  no_panel_here (rs232c l m area) a e = no_panel (by_rs232c m) (ltb-false (length area) 512 a) (missing family_w l e)
  no_panel_here (kjw l m area) a e = no_panel (by_kjw m) (ltb-false (length area) 512 a) (missing family_k l e)
  no_panel_here (tcp l m area) a e = no_panel (by_tcp_lem m) (ltb-false (length area) 512 a) (missing family_w l e)
  no_panel_here (udp m) a e = absurd (false_true e)

  there : {area : List ℕ} {m : Message} (l : ℕ) → Lends l area m → ltb (length area) 512 ≡ false → not (has_panel b l (family_of m)) ≡ false → LetIn b m
  there zero k a e = absurd (false_true (sym e))
  there {area} {m} (suc i) k a e = go (valid b) (ltb i b.count) (eqb (panel_at i b).family (family_of m)) refl refl refl (not-false (has_panel b (suc i) (family_of m)) e)
    where
      go : (v c f : Bool) → valid b ≡ v → ltb i b.count ≡ c → eqb (panel_at i b).family (family_of m) ≡ f → (v && c && f) ≡ true → LetIn b m
      go false c f v c' f' n = absurd (false_true n)
      go true false f v c' f' n = absurd (false_true n)
      go true true f v c' f' n = on_link_lem k (ltb-false (length area) 512 a) v (ltb-true i b.count c') (eqb-true (panel_at i b).family (family_of m) (f' ∙ n))

  let_in : (m : Message) → at m 0 ≡ false → at m 1 ≡ false → LetIn b m
  let_in (rs232c l m area) a e = there l (by_rs232c m) a e
  let_in (kjw l m area) a e = there l (by_kjw m) a e
  let_in (tcp l m area) a e = there l (by_tcp_lem m) a e
  let_in (udp m) a e = skipped

  bad_length : (m : Message) → at m 2 ≡ true → BadLength m
  bad_length (rs232c l m area) e = ltb-true (length m) 6 e
  bad_length (kjw l m area) e = eqb-false (length m) 24 (not-true (eqb (length m) 24) e)
  bad_length (tcp l m area) e = ltb-true (length m) 13 e
  bad_length (udp m) e = ltb-true (length m) 13 e

  long : (m : Message) → at m 2 ≡ false → BadLength m → ⊥
  long (rs232c l m area) e h = let k = ltb-false (length m) 6 e in omega arith
  long (kjw l m area) e h = h (eqb-true (length m) 24 (not-false (eqb (length m) 24) e))
  long (tcp l m area) e h = let k = ltb-false (length m) 13 e in omega arith
  long (udp m) e h = let k = ltb-false (length m) 13 e in omega arith

  -- a packet that is ours, and none of the panels is called
  untargeted : (l : ℕ) (m area : List ℕ) → eqb (target (names b) (tcp l m area)) 0 ≡ true → (i : ℕ) → addressed (names b) (tcp l m area) i ≡ false
  unfolding addressed
  untargeted l m area e i = rw (eqb-true (target (names b) (tcp l m area)) 0 e) (ne_eqb 0 (suc i) (λ z. omega arith))

  targeted : (l : ℕ) (m area : List ℕ) → ((i : ℕ) → addressed (names b) (tcp l m area) i ≡ false) → eqb (target (names b) (tcp l m area)) 0 ≡ true
  unfolding addressed
  targeted l m area = no_target (target (names b) (tcp l m area))

  not_ours : (x : Message) (m : List ℕ) (none : Bool) → (none ≡ true → (i : ℕ) → addressed (names b) x i ≡ false) → (not (packetAsks.is_ours m) || none) ≡ true → NotOurs b x m
  not_ours x m none f = go (packetAsks.is_ours m) refl
    where
      go : (o : Bool) → packetAsks.is_ours m ≡ o → (not o || none) ≡ true → NotOurs b x m
      go true o e = to_nobody_lem (f e)
      go false o e = wrong_front o

  ours : {x : Message} {m : List ℕ} (none : Bool) → (((i : ℕ) → addressed (names b) x i ≡ false) → none ≡ true) → (not (packetAsks.is_ours m) || none) ≡ false → NotOurs b x m → ⊥
  ours {x} {m} none f e (wrong_front o) = false_true (sym (neither (not (packetAsks.is_ours m)) none e).0 ∙ ap not o)
  ours {x} {m} none f e (to_nobody_lem n) = false_true (sym (neither (not (packetAsks.is_ours m)) none e).1 ∙ f n)

  foreign : (m : Message) → at m 3 ≡ true → Foreign b m
  unfolding addressed
  foreign (rs232c l m area) e = e
  foreign (kjw l m area) e = not-true (frameAsks.is_ours m) e
  foreign (tcp l m area) e = not_ours (tcp l m area) m (eqb (target (names b) (tcp l m area)) 0) (untargeted l m area) e
  foreign (udp m) e = not_ours (udp m) m (not (any_called m (names b))) (λ n. uncalled m (names b) (not-true (any_called m (names b)) n)) e

  for_us : (m : Message) → at m 3 ≡ false → Foreign b m → ⊥
  unfolding addressed
  for_us (rs232c l m area) e f = false_true (sym e ∙ f)
  for_us (kjw l m area) e f = false_true (sym e ∙ ap not f)
  for_us (tcp l m area) e f = ours (eqb (target (names b) (tcp l m area)) 0) (targeted l m area) e f
  for_us (udp m) e f = ours (not (any_called m (names b))) (λ n. ap not (none_called m (names b) n)) e f

  -- conditions 4 to 9 are the parts of the envelope
  abbrev NoPart : Message → Type 0
  NoPart m = (j : ℕ) → j < 10 → at m j ≡ false

  serial_good : (l : ℕ) (m area : List ℕ) → NoPart (rs232c l m area) → serialAsks.envelope_of m ≡ Ok tt
  unfolding serialAsks.envelope_of
  serial_good l m area n = rw (n 8 (omega arith), n 9 (omega arith))

  packet_good : (x : Message) (m : List ℕ) → at x 4 ≡ packetAsks.request_wrong m → at x 5 ≡ packetAsks.item_wrong m → at x 6 ≡ packetAsks.too_long m → at x 7 ≡ packetAsks.not_matching m → NoPart x → packetAsks.envelope_of m ≡ Ok tt
  unfolding packetAsks.envelope_of
  packet_good x m q i t u n = rw (sym q ∙ n 4 (omega arith), sym i ∙ n 5 (omega arith), sym t ∙ n 6 (omega arith), sym u ∙ n 7 (omega arith))

  whole : (m : Message) → NoPart m → Whole m
  whole (rs232c l m area) n = serialEnvelopes.good_whole m (serial_good l m area n)
  whole (kjw l m area) n = tt
  whole (tcp l m area) n = packetEnvelopes.good_whole m (packet_good (tcp l m area) m refl refl refl refl n)
  whole (udp m) n = packetEnvelopes.good_whole m (packet_good (udp m) m refl refl refl refl n)

  asking : (m : Message) → at m 10 ≡ true → Asking m
  asking (rs232c l m area) e = false_true e
  asking (kjw l m area) e = false_true e
  asking (tcp l m area) e = false_true e
  asking (udp m) e = e

  not_asking : (m : Message) → at m 10 ≡ false → Asking m → ⊥
  not_asking (rs232c l m area) e f = f
  not_asking (kjw l m area) e f = f
  not_asking (tcp l m area) e f = f
  not_asking (udp m) e f = false_true (sym e ∙ f)

  unclear : (m : Message) → at m 10 ≡ false → at m 11 ≡ true → Unclear m
  unclear (rs232c l m area) a e = serial_unclear_lem m e
  unclear (kjw l m area) a e = frame_unclear_lem m e
  unclear (tcp l m area) a e = packet_unclear_lem m e
  unclear (udp m) a e = cast_plain m a ∙ packet_unclear_lem m e

  is_ours_lem : (m : List ℕ) (none : Bool) → (not (packetAsks.is_ours m) || none) ≡ false → packetAsks.is_ours m ≡ true
  is_ours_lem m none e = not-false (packetAsks.is_ours m) (neither (not (packetAsks.is_ours m)) none e).0

  clear : (m : Message) → ((j : ℕ) → at m j ≡ false) → Clear m
  clear (rs232c l m area) n = serial_clear m (n 2) (n 3) (serial_good l m area (λ j h. n j)) (n 11)
  clear (kjw l m area) n = frame_clear m (not-false (eqb (length m) 24) (n 2)) (not-false (frameAsks.is_ours m) (n 3)) (n 11)
  clear (tcp l m area) n = packet_clear m (n 2) (is_ours_lem m (eqb (target (names b) (tcp l m area)) 0) (n 3)) (packet_good (tcp l m area) m refl refl refl refl (λ j h. n j)) (n 11)
  clear (udp m) n =
      let t = packet_clear m (n 2) (is_ours_lem m (not (any_called m (names b))) (n 3)) (packet_good (udp m) m refl refl refl refl (λ j h. n j)) (n 11) in
      (t.0, cast_plain m (n 10) ∙ t.1)

  fired : (m : Message) (k : ℕ) → k < length checks → number_of (step b m).answer ≡ get_or checks k 0 → Fires (conditions b m) k
  fired m k h e = fires checks (conditions b m) k refl h (sym (checked b m) ∙ e)

  each_checked : (m : Message) → length (conditions b m) ≤ length checks
  each_checked (rs232c l m area) = omega arith
  each_checked (kjw l m area) = omega arith
  each_checked (tcp l m area) = omega arith
  each_checked (udp m) = omega arith

  -- each check has its condition, and each condition its check
  pub one_check_each : (m : Message) → length (conditions b m) ≡ length checks
  one_check_each (rs232c l m area) = omega arith
  one_check_each (kjw l m area) = omega arith
  one_check_each (tcp l m area) = omega arith
  one_check_each (udp m) = omega arith

-- ---- a part's number among the checks

check_of : (p : Part) → (k : ℕ) × (4 ≤ k) × (k < length checks) × (get_or checks k 0 ≡ part_number p)
check_of Request = (4, omega arith, omega arith, refl)
check_of Item = (5, omega arith, omega arith, refl)
check_of TooLong = (6, omega arith, omega arith, refl)
check_of NotMatching = (7, omega arith, omega arith, refl)
check_of Count = (8, omega arith, omega arith, refl)
check_of (Checksum place) = (9, omega arith, omega arith, refl)

-- ---- each answer, of every box and every message

module _ (b : DisplayBox) (m : Message) where
  pub only_1 : number_of (step b m).answer ≡ 1 → Small m
  only_1 e = small b m (fired b m 0 (omega arith) e).holds

  pub only_2 : number_of (step b m).answer ≡ 2 → NoPanel b m
  only_2 e = let t = fired b m 1 (omega arith) e in no_panel_here b m (t.none_before 0 (omega arith)) t.holds

  pub only_3 : number_of (step b m).answer ≡ 3 → LetIn b m × BadLength m
  only_3 e = let t = fired b m 2 (omega arith) e in (let_in b m (t.none_before 0 (omega arith)) (t.none_before 1 (omega arith)), bad_length b m t.holds)

  pub only_4 : number_of (step b m).answer ≡ 4 → LetIn b m × (BadLength m → ⊥) × Foreign b m
  only_4 e =
      let t = fired b m 3 (omega arith) e in
      let n = t.none_before in
      (let_in b m (n 0 (omega arith)) (n 1 (omega arith)), long b m (n 2 (omega arith)), foreign b m t.holds)

  -- behind 4 the message was let in, is long enough, and is for us
  behind : (k : ℕ) → 4 ≤ k → Fires (conditions b m) k → LetIn b m × (BadLength m → ⊥) × (Foreign b m → ⊥)
  behind k h t =
      let n = t.none_before in
      (let_in b m (n 0 (omega arith)) (n 1 (omega arith)), long b m (n 2 (omega arith)), for_us b m (n 3 (omega arith)))

  -- 9 to 14, of every part: `told` says what is wrong
  pub only_part : (p : Part) → (step b m).answer ≡ PartWrong p → LetIn b m × (BadLength m → ⊥) × (Foreign b m → ⊥) × Broken m p
  only_part p e =
      let c = check_of p in
      let t = behind c.0 c.1 (fired b m c.0 c.2 (ap number_of e ∙ sym c.3)) in
      (t.0, t.1, t.2, subst (Told m) e (told b m))

  pub only_8 : number_of (step b m).answer ≡ 8 → LetIn b m × (BadLength m → ⊥) × (Foreign b m → ⊥) × Whole m × Asking m
  only_8 e =
      let t = fired b m 10 (omega arith) e in
      let h = behind 10 (omega arith) t in
      (h.0, h.1, h.2, whole b m (λ j i. t.none_before j i), asking b m t.holds)

  pub only_6 : number_of (step b m).answer ≡ 6 → LetIn b m × (BadLength m → ⊥) × (Foreign b m → ⊥) × Whole m × (Asking m → ⊥) × Unclear m
  only_6 e =
      let t = fired b m 11 (omega arith) e in
      let h = behind 11 (omega arith) t in
      let a = t.none_before 10 (omega arith) in
      (h.0, h.1, h.2, whole b m (λ j i. t.none_before j (omega arith)), not_asking b m a, unclear b m a t.holds)

  pub only_0 : number_of (step b m).answer ≡ 0 → LetIn b m × (BadLength m → ⊥) × (Foreign b m → ⊥) × Whole m × (Asking m → ⊥) × Clear m
  only_0 e =
      let n = none checks (conditions b m) refl (each_checked b m) (sym (checked b m) ∙ e) in
      (let_in b m (n 0) (n 1), long b m (n 2), for_us b m (n 3), whole b m (λ j h. n j), not_asking b m (n 10), clear b m n)

-- ---- a configuration

-- 7: "configuration breaks a rule of the first section": three bytes a panel, and the box asked for keeps the rules
pub data BadlyAsked (c : List ℕ) : Type 0 where
  odd_length : (length c % 3 ≡ 0 → ⊥) → BadlyAsked c
  bad_box : valid (asked c) ≡ false → BadlyAsked c

pub only_7 : (c : List ℕ) → number_of (configured c).answer ≡ 7 → BadlyAsked c
unfolding configured
only_7 c = go (eqb (length c % 3) 0) (valid (asked c)) refl refl
  where
    go : (t v : Bool) → eqb (length c % 3) 0 ≡ t → valid (asked c) ≡ v → number_of (cond (t && v) (record { answer = Done; made = asked c }) refusal).answer ≡ 7 → BadlyAsked c
    go false v t v' e = odd_length (eqb-false (length c % 3) 0 t)
    go true false t v' e = bad_box v'
    go true true t v' e = absurd (omega arith)
