-- Document 02, §8: of a packet that is ours the first part that is wrong is told, for the envelope is a ladder in the order of the parts.
use mathlib.Core.Path.{◌≡◌, refl, ap, subst, ◌∙◌}
use mathlib.Core.Bool.{true, not}
use mathlib.Core.List.{List}
use Prim.Native.Nat.{ℕ, ◌-◌, ◌<◌, ◌≤◌}
use lib.ListN.{length}
use lib.Dec.{eqb, ltb}
use borrow.Author.Tests.{eq-eqb, ne_eqb, eqb-true, eqb-false, lt-ltb, le-ltb, ltb-true, ltb-false, not-true, not-false}
use Rattle.std.specs.Prelude.{Option, Some, None, Result, Ok, Err}
use Rattle.laws.proofs.Conditions.{choose}
use Rattle.terms.specs.declared.Answer.TheVariants.{WrongLength, NotForUs}
use Rattle.terms.specs.declared.Part.{Part}
use Rattle.terms.specs.declared.Part.TheVariants.{Request, Item, TooLong, NotMatching, Count, Checksum}
use Rattle.vmc_asks.specs.Asks.{read_data}
use Rattle.vmc_asks.specs.declared.Order.{Order}
use Rattle.sdcp_asks.specs.Asks.{is_ours, request_of, item_of, data_length_of, data_of, request_wrong, item_wrong, too_long, not_matching, envelope_of, in_words, unless_wrong, heard_of, Heard}
use Rattle.sdcp_asks.specs.declared.Fault.TheVariants.{Refused, Broken, NotUnderstood}

-- ---- a packet that is ours: its envelope decides, whatever its words

module _ (m : List ℕ) (long : 13 ≤ length m) (ours : is_ours m ≡ true) where
  enclosed : heard_of m ≡ unless_wrong (envelope_of m) (in_words (read_data (data_of m)))
  unfolding heard_of
  enclosed = rw (le-ltb (length m) 13 long, ours)

  by_envelope : (e : Result (Unit {0}) Part) → envelope_of m ≡ e → heard_of m ≡ unless_wrong e (in_words (read_data (data_of m)))
  by_envelope e w = enclosed ∙ ap (λ (x : Result (Unit {0}) Part). unless_wrong x (in_words (read_data (data_of m)))) w

  pub wrong_heard : (p : Part) → envelope_of m ≡ Err p → heard_of m ≡ Err (Broken p)
  wrong_heard p = by_envelope (Err p)

  pub good_heard : envelope_of m ≡ Ok tt → heard_of m ≡ in_words (read_data (data_of m))
  good_heard = by_envelope (Ok tt)

  -- each part alone, and behind those before it
  pub request_told : (request_of m ≡ 0 → ⊥) → heard_of m ≡ Err (Broken Request)
  unfolding envelope_of
  request_told n = wrong_heard Request (rw (ne_eqb (request_of m) 0 n))

  pub item_told : request_of m ≡ 0 → (item_of m ≡ 0xb000 → ⊥) → heard_of m ≡ Err (Broken Item)
  unfolding envelope_of
  item_told q n = wrong_heard Item (rw (eq-eqb (request_of m) 0 q, ne_eqb (item_of m) 0xb000 n))

  pub too_long_told : request_of m ≡ 0 → item_of m ≡ 0xb000 → 499 < data_length_of m → heard_of m ≡ Err (Broken TooLong)
  unfolding envelope_of
  too_long_told q i n = wrong_heard TooLong (rw (eq-eqb (request_of m) 0 q, eq-eqb (item_of m) 0xb000 i, lt-ltb 499 (data_length_of m) n))

  pub not_matching_told : request_of m ≡ 0 → item_of m ≡ 0xb000 → data_length_of m ≤ 499 → (data_length_of m ≡ length m - 13 → ⊥) → heard_of m ≡ Err (Broken NotMatching)
  unfolding envelope_of
  not_matching_told q i h n = wrong_heard NotMatching (rw (eq-eqb (request_of m) 0 q, eq-eqb (item_of m) 0xb000 i, le-ltb 499 (data_length_of m) h, ne_eqb (data_length_of m) (length m - 13) n))

-- ---- the other way: what was told is what is wrong

-- what holds on each rung of the ladder holds of what was heard
pub by_rungs : (P : Heard → Type 0) (m : List ℕ) → P (Err (Refused WrongLength)) → P (Err (Refused NotForUs)) → (13 ≤ length m → (p : Part) → envelope_of m ≡ Err p → P (Err (Broken p))) → (13 ≤ length m → P (in_words (read_data (data_of m)))) → P (heard_of m)
unfolding heard_of
by_rungs P m short foreign broken words =
    choose P (ltb (length m) 13) _ _ (λ e. short)
    (λ e. choose P (not (is_ours m)) _ _ (λ f. foreign) (λ f. go (ltb-false (length m) 13 e) (envelope_of m) refl))
  where
    go : 13 ≤ length m → (e : Result (Unit {0}) Part) → envelope_of m ≡ e → P (unless_wrong e (in_words (read_data (data_of m))))
    go h (Ok tt) e = words h
    go h (Err p) e = broken h p e

abbrev Found : Result (Unit {0}) Part → Heard → Type 0
Found e (Err (Refused a)) = Unit {0}
Found e (Err (Broken p)) = e ≡ Err p
Found e (Err NotUnderstood) = Unit {0}
Found e (Ok o) = Unit {0}

words_found : (e : Result (Unit {0}) Part) (x : Option Order) → Found e (in_words x)
words_found e (Some o) = tt
words_found e None = tt

pub broken_is : (m : List ℕ) (p : Part) → heard_of m ≡ Err (Broken p) → envelope_of m ≡ Err p
broken_is m p e = subst (Found (envelope_of m)) e (by_rungs (Found (envelope_of m)) m tt tt (λ h p w. w) (λ h. words_found (envelope_of m) (read_data (data_of m))))

-- in words: the part is wrong, and none before it; a packet has no byte count and no checksum
abbrev pub FirstWrong : List ℕ → Part → Type 0
FirstWrong m Request = request_of m ≡ 0 → ⊥
FirstWrong m Item = (request_of m ≡ 0) × (item_of m ≡ 0xb000 → ⊥)
FirstWrong m TooLong = (request_of m ≡ 0) × (item_of m ≡ 0xb000) × (499 < data_length_of m)
FirstWrong m NotMatching = (request_of m ≡ 0) × (item_of m ≡ 0xb000) × (data_length_of m ≤ 499) × (data_length_of m ≡ length m - 13 → ⊥)
FirstWrong m Count = ⊥
FirstWrong m (Checksum place) = ⊥

-- and a good envelope has no such part
abbrev pub Whole : List ℕ → Type 0
Whole m = (request_of m ≡ 0) × (item_of m ≡ 0xb000) × (data_length_of m ≤ 499) × (data_length_of m ≡ length m - 13)

abbrev Says : List ℕ → Result (Unit {0}) Part → Type 0
Says m (Ok tt) = Whole m
Says m (Err p) = FirstWrong m p

says : (m : List ℕ) → Says m (envelope_of m)
unfolding envelope_of
says m =
    choose (Says m) (request_wrong m) _ _ (λ q. eqb-false (request_of m) 0 (not-true (eqb (request_of m) 0) q)) (λ q.
    let q' = eqb-true (request_of m) 0 (not-false (eqb (request_of m) 0) q) in
    choose (Says m) (item_wrong m) _ _ (λ i. (q', eqb-false (item_of m) 0xb000 (not-true (eqb (item_of m) 0xb000) i))) (λ i.
    let i' = eqb-true (item_of m) 0xb000 (not-false (eqb (item_of m) 0xb000) i) in
    choose (Says m) (too_long m) _ _ (λ l. (q', i', ltb-true 499 (data_length_of m) l)) (λ l.
    let l' = ltb-false 499 (data_length_of m) l in
    let n = eqb (data_length_of m) (length m - 13) in
    choose (Says m) (not_matching m) _ _ (λ e. (q', i', l', eqb-false (data_length_of m) (length m - 13) (not-true n e))) (λ e. (q', i', l', eqb-true (data_length_of m) (length m - 13) (not-false n e))))))

pub first_wrong : (m : List ℕ) (p : Part) → envelope_of m ≡ Err p → FirstWrong m p
first_wrong m p e = subst (Says m) e (says m)

pub good_whole : (m : List ℕ) → envelope_of m ≡ Ok tt → Whole m
good_whole m e = subst (Says m) e (says m)
