-- Document 02, §8: of a frame that is ours the first part that is wrong is told, for the envelope is a ladder in the order of the parts.
use mathlib.Core.Path.{◌≡◌, refl, ap, subst, ◌∙◌}
use mathlib.Core.Bool.{true, false}
use mathlib.Core.List.{List}
use Prim.Native.Nat.{ℕ, ◌+◌, ◌-◌, ◌≤◌}
use lib.Dec.{eqb, ltb}
use lib.ListN.{length, drop}
use borrow.Author.Tests.{eq-eqb, ne_eqb, eqb-true, eqb-false, le-ltb, not-true, not-false}
use Rattle.std.specs.Prelude.{Option, Some, None, Result, Ok, Err}
use Rattle.laws.proofs.Conditions.{choose}
use Rattle.sums.specs.Sums.{sums_to_zero}
use Rattle.terms.specs.declared.Answer.{Answer}
use Rattle.terms.specs.declared.Answer.TheVariants.{WrongLength, NotForUs, NotUnderstood}
use Rattle.terms.specs.declared.Part.{Part}
use Rattle.terms.specs.declared.Part.TheVariants.{Request, Item, TooLong, NotMatching, Count, Checksum}
use Rattle.rs232c_asks.specs.Asks.{count_of, source_of, code_of, data_of, is_foreign, count_wrong, sum_wrong, envelope_of, ordered, unless_wrong, command_of, order_of, Heard, from_source, understood, not_understood, broken, heard_of}
use Rattle.rs232c_asks.specs.declared.Order.{Order}
use Rattle.rs232c_asks.specs.declared.Asked.{Asked}

-- ---- a frame that is ours: its envelope decides, whatever its command

module _ (m : List ℕ) (long : 6 ≤ length m) (ours : is_foreign m ≡ false) where
  enclosed : heard_of m ≡ from_source (source_of m) (order_of m)
  unfolding heard_of
  enclosed = rw (le-ltb (length m) 6 long, ours)

  by_envelope : (e : Result (Unit {0}) Part) → envelope_of m ≡ e → heard_of m ≡ from_source (source_of m) (unless_wrong e (command_of (code_of m) (data_of m)))
  unfolding order_of
  by_envelope e w = enclosed ∙ ap (λ (x : Result (Unit {0}) Part). from_source (source_of m) (unless_wrong x (command_of (code_of m) (data_of m)))) w

  pub wrong_heard : (p : Part) → envelope_of m ≡ Err p → heard_of m ≡ broken (source_of m) p
  wrong_heard p = by_envelope (Err p)

  pub good_heard : envelope_of m ≡ Ok tt → heard_of m ≡ from_source (source_of m) (ordered (command_of (code_of m) (data_of m)))
  good_heard = by_envelope (Ok tt)

  -- each part alone, and behind the one before it
  pub count_told : (count_of m + 3 ≡ length m → ⊥) → heard_of m ≡ broken (source_of m) Count
  unfolding envelope_of
  count_told n = wrong_heard Count (rw (ne_eqb (count_of m + 3) (length m) n))

  pub checksum_told : count_of m + 3 ≡ length m → sums_to_zero (drop 1 m) ≡ false → heard_of m ≡ broken (source_of m) (Checksum (length m - 1))
  unfolding envelope_of
  checksum_told c s = wrong_heard (Checksum (length m - 1)) (rw (eq-eqb (count_of m + 3) (length m) c, s))

-- ---- behind the envelope a frame is understood or it is not

abbrev pub JudgedOrder : Result Order Answer → Type 0
JudgedOrder (Ok o) = Unit {0}
JudgedOrder (Err a) = a ≡ NotUnderstood

-- neither refused nor broken
abbrev pub Judged : Heard → Type 0
Judged (Err a) = ⊥
Judged (Ok x) = JudgedOrder x.order

pub command_judged : (s code : ℕ) (bytes : List ℕ) → Judged (from_source s (ordered (command_of code bytes)))
command_judged s code bytes = go (command_of code bytes)
  where
    go : (o : Option Order) → JudgedOrder (ordered o)
    go (Some o) = tt
    go None = refl

-- ---- the other way: what was told is what is wrong

-- what holds on each rung of the ladder holds of what was heard
pub by_rungs : (P : Heard → Type 0) (m : List ℕ) → P (Err WrongLength) → P (Err NotForUs) → ((p : Part) → envelope_of m ≡ Err p → P (broken (source_of m) p))
    → (command_of (code_of m) (data_of m) ≡ None → P (not_understood (source_of m))) → ((o : Order) → command_of (code_of m) (data_of m) ≡ Some o → P (understood (source_of m) o)) → P (heard_of m)
unfolding heard_of order_of
by_rungs P m short foreign wrong strange clear = choose P (ltb (length m) 6) _ _ (λ e. short) (λ e. choose P (is_foreign m) _ _ (λ f. foreign) (λ f. go (envelope_of m) (command_of (code_of m) (data_of m)) refl refl))
  where
    go : (e : Result (Unit {0}) Part) (o : Option Order) → envelope_of m ≡ e → command_of (code_of m) (data_of m) ≡ o → P (from_source (source_of m) (unless_wrong e o))
    go (Err p) o e f = wrong p e
    go (Ok u) (Some o) e f = clear o f
    go (Ok u) None e f = strange f

-- what was heard of two frames in one way came from one source, with one order
pub same_heard : {s t : ℕ} {o o' : Result Order Answer} → from_source s o ≡ from_source t o' → (s ≡ t) × (o ≡ o')
same_heard {s} {t} {o} {o'} e =
    let same : ◌≡◌ {A = Asked} (record { source = s; order = o }) (record { source = t; order = o' }) = cc in
    (ap (λ (x : Asked). x.source) same, ap (λ (x : Asked). x.order) same)

-- nothing but a wrong envelope is broken
pub broken_is : (m : List ℕ) (s : ℕ) (p : Part) → heard_of m ≡ broken s p → envelope_of m ≡ Err p
broken_is m s p =
    by_rungs (λ (h : Heard). h ≡ broken s p → envelope_of m ≡ Err p) m (λ e. absurd (cc)) (λ e. absurd (cc)) (λ q w e. let o = (same_heard e).1 in cc)
    (λ n e. let o = (same_heard e).1 in absurd (cc)) (λ q n e. let o = (same_heard e).1 in absurd (cc))

-- in words: the part is wrong, and none before it; a frame has a byte count and a checksum alone
abbrev pub FirstWrong : List ℕ → Part → Type 0
FirstWrong m Request = ⊥
FirstWrong m Item = ⊥
FirstWrong m TooLong = ⊥
FirstWrong m NotMatching = ⊥
FirstWrong m Count = count_of m + 3 ≡ length m → ⊥
FirstWrong m (Checksum place) = (count_of m + 3 ≡ length m) × (sums_to_zero (drop 1 m) ≡ false) × (place ≡ length m - 1)

-- and a good envelope has no such part
abbrev pub Whole : List ℕ → Type 0
Whole m = (count_of m + 3 ≡ length m) × (sums_to_zero (drop 1 m) ≡ true)

abbrev Says : List ℕ → Result (Unit {0}) Part → Type 0
Says m (Ok u) = Whole m
Says m (Err p) = FirstWrong m p

says : (m : List ℕ) → Says m (envelope_of m)
unfolding envelope_of
says m =
    let n = eqb (count_of m + 3) (length m) in
    let s = sums_to_zero (drop 1 m) in
    choose (Says m) (count_wrong m) _ _ (λ c. eqb-false (count_of m + 3) (length m) (not-true n c)) (λ c.
    let c' = eqb-true (count_of m + 3) (length m) (not-false n c) in
    choose (Says m) (sum_wrong m) _ _ (λ e. (c', not-true s e, refl)) (λ e. (c', not-false s e)))

pub first_wrong : (m : List ℕ) (p : Part) → envelope_of m ≡ Err p → FirstWrong m p
first_wrong m p e = subst (Says m) e (says m)

pub good_whole : (m : List ℕ) → envelope_of m ≡ Ok tt → Whole m
good_whole m e = subst (Says m) e (says m)
