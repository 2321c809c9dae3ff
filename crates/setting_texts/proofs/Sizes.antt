-- How many words a setting has and how long its texts are, each from one test computed over the names.
use Prim.Native.Nat.{ℕ, ◌≤◌}
use mathlib.Core.Path.{◌≡◌, refl, ap}
use mathlib.Core.Bool.{Bool, true, false}
use mathlib.Core.List.{List, [], map}
use native.Mathlib.Omega.{arith}
use lib.Dec.{ltb, leb, leb→le}
use lib.ListN.{length, get_or, get_or-eq_default}
use borrow.Author.Tests.{ltb-true, ltb-false}
use Rattle.laws.specs.Lists.{every_below}
use Rattle.laws.proofs.Table.{below}
use Rattle.settings.specs.Table.{Setting, all_named, name_count}
use Rattle.setting_texts.specs.Names.{names, leads, lead_of, words_of, word_of}

-- the names of the settings and the two shifts
pub names_counted : length names ≡ name_count
names_counted = refl

few_words : ℕ → Bool
few_words k = leb (length (words_of k)) 3

-- behind the settings there are no words
pub none : (k v : ℕ) → 21 ≤ k → word_of k v ≡ []
none k v h = ap (λ (ws : List (List ℕ)). get_or ws v []) (get_or-eq_default (map (λ (s : Setting). s.words) all_named) [] h)

pub no_words_lem : (k : ℕ) → 21 ≤ k → length (words_of k) ≡ 0
no_words_lem k h = ap length (get_or-eq_default (map (λ (s : Setting). s.words) all_named) [] h)

pub few_words_lem : (k : ℕ) → length (words_of k) ≤ 3
unfolding few_words
few_words_lem k = go (ltb k 21) refl
  where
    go : (b : Bool) → ltb k 21 ≡ b → length (words_of k) ≤ 3
    go true e = leb→le _ _ (below 21 few_words tt k (ltb-true k 21 e))
    go false e = let z = no_words_lem k (ltb-false k 21 e) in omega (arith, z)

-- a name with what parts it from its value has at most 13 bytes, and a word at most 7
short_lead : ℕ → Bool
short_lead k = leb (length (lead_of k)) 13

pub short_lead_lem : (k : ℕ) → length (lead_of k) ≤ 13
unfolding short_lead
short_lead_lem k = go (ltb k 23) refl
  where
    go : (b : Bool) → ltb k 23 ≡ b → length (lead_of k) ≤ 13
    go true e = leb→le _ _ (below 23 short_lead tt k (ltb-true k 23 e))
    go false e = let z = ap length (get_or-eq_default leads [] (ltb-false k 23 e)) in omega (arith, z)

short_word : ℕ → ℕ → Bool
short_word k v = leb (length (word_of k v)) 7

short_words : ℕ → Bool
short_words k = every_below 3 (short_word k)

pub short_word_lem : (k v : ℕ) → length (word_of k v) ≤ 7
unfolding short_word short_words
short_word_lem k v = go (ltb k 21) refl (ltb v 3) refl
  where
    go : (b : Bool) → ltb k 21 ≡ b → (c : Bool) → ltb v 3 ≡ c → length (word_of k v) ≤ 7
    go true e true f = leb→le _ _ (below 3 (short_word k) (below 21 short_words tt k (ltb-true k 21 e)) v (ltb-true v 3 f))
    go true e false f = let w = few_words_lem k in let l = ltb-false v 3 f in let z = ap length (get_or-eq_default (words_of k) [] (let h : length (words_of k) ≤ v = omega arith in h)) in omega (arith, z)
    go false e c f = let z = ap length (none k v (ltb-false k 21 e)) in omega (arith, z)
