-- What is found is a name or a word: of 23 names, and of at most three words.
use Prim.Native.Nat.{ℕ, ◌<◌}
use mathlib.Core.List.{List}
use native.Mathlib.Omega.{arith}
use lib.ListN.{length}
use Rattle.std.specs.Prelude.{Option, Some, None}
use Rattle.laws.specs.Bytes.{same, begins}
use Rattle.setting_texts.specs.Names.{lead_of, words_of, word_of}
use Rattle.setting_words.specs.Names.{led_by, chosen_by}
use Rattle.setting_words.proofs.Search.{Right, first_right}
use Rattle.setting_texts.proofs.Sizes.{few_words_lem}

abbrev pub Small : Option ℕ → Type 0
Small (Some v) = v < 3
Small None = Unit {0}

pub chosen_small : (k : ℕ) (s : List ℕ) → Small (chosen_by k s)
unfolding chosen_by
chosen_small k s = go (chosen_by k s) (first_right (length (words_of k)) (λ (v : ℕ). same (word_of k v) s))
  where
    go : (x : Option ℕ) → Right (λ (v : ℕ). same (word_of k v) s) (length (words_of k)) x → Small x
    go (Some v) r = let h = r.small in let f = few_words_lem k in omega arith
    go None r = tt

-- the name that leads s begins it
pub led_right : (s : List ℕ) → Right (λ (k : ℕ). begins (lead_of k) s) 23 (led_by s)
unfolding led_by
led_right s = first_right 23 (λ (k : ℕ). begins (lead_of k) s)
