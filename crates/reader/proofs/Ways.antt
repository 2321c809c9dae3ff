-- The way of the plain reader through a buffer: each of its steps is one of four, so what is kept by the four holds of the whole list.
use Prim.Native.Nat.{ℕ, zero, suc, ◌+◌, ◌≤◌, ◌<◌}
use native.Mathlib.Omega.{arith}
use mathlib.Core.Bool.{Bool, true, false}
use mathlib.Core.Path.{◌≡◌, refl, sym, ap, subst, ◌∙◌}
use mathlib.Core.List.{List, [], ◌∷◌}
use lib.ListN.{length, drop, length-drop, drop_of_length-le}
use lib.Seq.{drop-drop}
use lib.Dec.{ltb}
use borrow.Author.Tests.{ltb-true, ltb-false}
use Rattle.receiver.specs.Stream.{agrees, can_begin, whole}
use Rattle.receiver.proofs.Stream.{whole_is}
use Rattle.reader.specs.declared.Listing.{Listing}
use Rattle.reader.specs.Plain.{noted as noted_of, ends_at, stops_at, between, no_entries, plain}
use Rattle.reader.proofs.Rules.{ended, passed, tailed, stopped, noted}

-- from a place on, with this list there: the list at the end
pub data Way (b : List ℕ) : ℕ → Listing → Listing → Type 0 where
  -- at the buffer's end, or at a tail
  ends : {at : ℕ} {l : Listing} → at ≤ length b → can_begin (drop at b) ≡ true → whole (drop at b) ≡ 0 → Way b at l (ends_at l at)
  stops : {at : ℕ} {l : Listing} → at ≤ length b → can_begin (drop at b) ≡ true → (whole (drop at b) ≡ 0 → ⊥) → 64 ≤ l.count → Way b at l (stops_at l at)
  passes : {at : ℕ} {l f : Listing} → can_begin (drop at b) ≡ false → Way b (at + 1) l f → Way b at l f
  notes : {at : ℕ} {l f : Listing} (n : ℕ) → can_begin (drop at b) ≡ true → whole (drop at b) ≡ suc n → l.count < 64 → Way b (at + suc n) (noted_of l at (suc n)) f → Way b at l f

module _ (b : List ℕ) where
  at_end : (at : ℕ) (l : Listing) → at ≡ length b → Way b at l (between (drop at b) at l)
  unfolding agrees whole
  at_end at l e =
      let h : at ≤ length b = omega arith in
      let d : drop at b ≡ [] = drop_of_length-le b {i = at} (omega arith) in
      rw (d, ended at l) (ends h (ap can_begin d) (ap whole d))

  -- with bytes left, and the way from each further place known
  step : (at : ℕ) (l : Listing) (x : ℕ) (xs : List ℕ) → drop at b ≡ x ∷ xs → at < length b
      → ((k : ℕ) (m : Listing) → at < k → k ≤ length b → Way b k m (between (drop k b) k m)) → Way b at l (between (x ∷ xs) at l)
  step at l x xs e h ih = by_sight (can_begin (x ∷ xs)) refl
    where
      le : at ≤ length b
      le = omega arith

      by_room : (n : ℕ) → can_begin (x ∷ xs) ≡ true → whole (x ∷ xs) ≡ suc n → (t : Bool) → ltb l.count 64 ≡ t → Way b at l (between (x ∷ xs) at l)
      by_room n q w true i =
          let m = ltb-true l.count 64 i in
          let d : drop (suc n) (x ∷ xs) ≡ drop (at + suc n) b = ap (drop (suc n)) (sym e) ∙ drop-drop (suc n) at b in
          let k : at + suc n ≤ length b = omega (arith, (whole_is (x ∷ xs) n w).there, ap length e, length-drop at b) in
          rw (noted x xs at l n q w m, d) (notes n (ap can_begin e ∙ q) (ap whole e ∙ w) m (ih (at + suc n) (noted_of l at (suc n)) (omega arith) k))
      by_room n q w false i =
          rw (stopped x xs at l n q w (ltb-false l.count 64 i))
          (stops le (ap can_begin e ∙ q) (λ z. omega (arith, ap whole e ∙ w, z)) (ltb-false l.count 64 i))

      by_whole : can_begin (x ∷ xs) ≡ true → (n : ℕ) → whole (x ∷ xs) ≡ n → Way b at l (between (x ∷ xs) at l)
      by_whole q zero w = rw (tailed x xs at l q w) (ends le (ap can_begin e ∙ q) (ap whole e ∙ w))
      by_whole q (suc n) w = by_room n q w (ltb l.count 64) refl

      by_sight : (t : Bool) → can_begin (x ∷ xs) ≡ t → Way b at l (between (x ∷ xs) at l)
      by_sight true q = by_whole q (whole (x ∷ xs)) refl
      by_sight false q =
          let d : xs ≡ drop (at + 1) b = ap (drop 1) (sym e) ∙ drop-drop 1 at b in
          rw (passed x xs at l q, d) (passes (ap can_begin e ∙ q) (ih (at + 1) l (omega arith) (omega arith)))

  from : (n at : ℕ) (l : Listing) → length b ≤ at + n → at ≤ length b → Way b at l (between (drop at b) at l)
  from zero at l h le = at_end at l (omega arith)
  from (suc n) at l h le = go (drop at b) refl (from n)
    where
      go : (r : List ℕ) → drop at b ≡ r → ((k : ℕ) (m : Listing) → length b ≤ k + n → k ≤ length b → Way b k m (between (drop k b) k m)) → Way b at l (between r at l)
      go [] e ih = subst (λ (r : List ℕ). Way b at l (between r at l)) e (at_end at l (omega (arith, ap length e, length-drop at b)))
      go (x ∷ xs) e ih = step at l x xs e (omega (arith, ap length e, length-drop at b)) (λ k m i j. ih k m (omega arith) j)

pub way : (b : List ℕ) → Way b 0 no_entries (plain b)
unfolding plain
way b = from b (length b) 0 no_entries (omega arith) (omega arith)
