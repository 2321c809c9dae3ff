-- What is found is the library's first place: the house's tests of bytes are the library's.
use mathlib.Core.Path.{◌≡◌, refl}
use mathlib.Core.Bool.{Bool}
use mathlib.Core.List.{List}
use Prim.Native.Nat.{ℕ}
use lib.ListN.{length}
use Rattle.std.proofs.Common.{nat_eq}
use Rattle.std.specs.Cmp.Lexicographic.{pointwise}
use Rattle.std.specs.List.{position, range_with_len}
use Rattle.laws.specs.Bytes.{same, begins}
use Rattle.laws.proofs.Library.{same_pointwise}
use Rattle.setting_texts.specs.Names.{name_of, lead_of, words_of, word_of}
use Rattle.setting_words.specs.Names.{named_by, led_by, chosen_by}
use Rattle.setting_words.proofs.Search.{found}

abbrev pub is_name : List ℕ → ℕ → Bool
is_name s k = same (name_of k) s

abbrev pub is_led : List ℕ → ℕ → Bool
is_led s k = begins (lead_of k) s

abbrev pub is_word : ℕ → List ℕ → ℕ → Bool
is_word k s v = pointwise nat_eq (word_of k v) s

pub first_name : (s : List ℕ) → position (is_name s) (range_with_len 0 23) ≡ named_by s
unfolding named_by
first_name s = found 23 (is_name s) (is_name s) (λ k. refl)

pub first_led : (s : List ℕ) → position (is_led s) (range_with_len 0 23) ≡ led_by s
unfolding led_by
first_led s = found 23 (is_led s) (is_led s) (λ k. refl)

pub first_word : (k : ℕ) (s : List ℕ) → position (is_word k s) (range_with_len 0 (length (words_of k))) ≡ chosen_by k s
unfolding chosen_by
first_word k s = found (length (words_of k)) (is_word k s) (λ (v : ℕ). same (word_of k v) s) (λ v. same_pointwise (word_of k v) s)
