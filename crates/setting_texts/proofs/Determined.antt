-- Each promise at the door allows one outcome: its equations have the same right sides.
use mathlib.Core.Path.{◌≡◌, sym, ◌∙◌}
use mathlib.Core.List.{List}
use Prim.Native.Nat.{ℕ}
use lib.ListN.{length}
use Rattle.setting_texts.specs.Names.{name_of, lead_of, words_of, word_of}

pub lead_one : (k : ℕ) (r r' : List ℕ) → r ≡ lead_of k → r' ≡ lead_of k → r ≡ r'
lead_one k r r' p q = p ∙ sym q

pub name_one : (k : ℕ) (r r' : List ℕ) → r ≡ name_of k → r' ≡ name_of k → r ≡ r'
name_one k r r' p q = p ∙ sym q

pub word_one : (k v : ℕ) (r r' : List ℕ) → r ≡ word_of k v → r' ≡ word_of k v → r ≡ r'
word_one k v r r' p q = p ∙ sym q

pub word_count_one : (k r r' : ℕ) → r ≡ length (words_of k) → r' ≡ length (words_of k) → r ≡ r'
word_count_one k r r' p q = p ∙ sym q
