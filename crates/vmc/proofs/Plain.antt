-- The words that go back begin with a byte below 80h, or are none: every name does, and so do signs and digits.
use mathlib.Core.Path.{◌≡◌, refl, ap}
use mathlib.Core.Bool.{Bool, true, false, cond}
use mathlib.Core.List.{List, [], ◌∷◌, ◌++◌}
use Prim.Native.Nat.{ℕ, ◌<◌, ◌≤◌}
use native.Mathlib.Omega.{arith}
use lib.Dec.{eqb, ltb, leb, leb→le}
use lib.ListN.{length, get_or, get_or-eq_default}
use lib.IntN.{ℤ, pos, negsuc}
use borrow.Author.Tests.{ltb-true, ltb-false, le-ltb}
use Rattle.laws.specs.Bytes.{ascii}
use Rattle.laws.proofs.Table.{below, sure}
use Rattle.decimals.specs.Decimals.{numeral}
use Rattle.settings.specs.Table.{name_count}
use Rattle.setting_texts.specs.Names.{leads, lead_of}
use Rattle.setting_texts.proofs.Sizes.{none}
use Rattle.vmc_tells.specs.Texts.{size_of, sign_of, value_words, shift_words, set_words, move_words, text_of}
use Rattle.vmc_tells.specs.declared.Says.{Says}
use Rattle.vmc_tells.specs.declared.Says.TheVariants.{Bare, Value, Offset}

abbrev pub Low : List ℕ → Type 0
Low l = get_or l 0 0 < 0x80

low_lead : ℕ → Bool
low_lead k = ltb (get_or (lead_of k) 0 0) 0x80

some : ℕ → Bool
some k = leb 1 (length (lead_of k))

behind : (l r : List ℕ) → Low l → 1 ≤ length l → Low (l ++ r)
behind [] r h s = absurd (omega arith)
behind (x ∷ l) r h s = h

with_lead : (k : ℕ) (r : List ℕ) → (name_count ≤ k → Low r) → Low (lead_of k ++ r)
unfolding low_lead some
with_lead k r f = go (ltb k name_count) refl
  where
    go : (b : Bool) → ltb k name_count ≡ b → Low (lead_of k ++ r)
    go true e =
        let h = ltb-true k name_count e in
        behind (lead_of k) r (ltb-true (get_or (lead_of k) 0 0) 0x80 (sure _ (below name_count low_lead tt k h))) (leb→le _ _ (below name_count some tt k h))
    go false e =
        let h = ltb-false k name_count e in
        let n = f h in
        let q : get_or (lead_of k ++ r) 0 0 ≡ get_or r 0 0 = ap (λ (l : List ℕ). get_or (l ++ r) 0 0) (get_or-eq_default leads [] h) in
        omega (arith, n, q)

low_shift : (z : ℤ) → Low (shift_words z)
unfolding shift_words
low_shift z = go (eqb (size_of z) 0) z
  where
    go : (b : Bool) (y : ℤ) → Low (cond b (ascii "0") (sign_of y ∷ numeral (size_of z)))
    go true y = omega arith
    go false (pos n) = omega arith
    go false (negsuc n) = omega arith

pub low_text : (t : Says) → Low (text_of t)
unfolding text_of set_words move_words value_words
low_text Bare = omega arith
low_text (Value k v) = with_lead k (value_words k v) none_behind
  where
    none_behind : name_count ≤ k → Low (value_words k v)
    none_behind h = let q : get_or (value_words k v) 0 0 ≡ 0 = rw (le-ltb k 3 (omega arith)) (ap (λ (l : List ℕ). get_or l 0 0) (none k v (omega arith))) in omega (arith, q)
low_text (Offset k z) = with_lead k (shift_words z) (λ h. low_shift z)
