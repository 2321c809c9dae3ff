-- Each promise at the door allows one outcome: its equations have the same right sides.
use Prim.Native.Nat.{ℕ, ◌≤◌, suc}
use mathlib.Core.Path.{◌≡◌, sym, ◌∙◌}
use mathlib.Core.List.{List}
use native.Mathlib.Omega.{arith}
use lib.ListN.{length, get_or, drop}
use Rattle.laws.specs.Bytes.{Sent}
use Rattle.laws.proofs.Bytes.{sent_one}
use Rattle.script_words.specs.Words.{before, number_at, bytes_at, words_in, word_at}
use mathlib.Core.Bool.{Bool}
use Rattle.script_words.specs.Kinds.{shaped}
use Rattle.script_words.specs.declared.Kind.{Kind}

pub length_before_one : (c : ℕ) (s : List ℕ) (r r' : ℕ) → (r ≡ length (before c s)) × (r ≤ length s) → (r' ≡ length (before c s)) × (r' ≤ length s) → r ≡ r'
length_before_one c s r r' p q = p.0 ∙ sym q.0

pub number_at_one : (line : List ℕ) (k most r r' : ℕ) → r ≡ number_at most k line → r' ≡ number_at most k line → r ≡ r'
number_at_one line k most r r' p q = p ∙ sym q

pub bytes_at_one : (line : List ℕ) (k r r' : ℕ) (area x x' : List ℕ) → Sent (bytes_at k line) r area x → Sent (bytes_at k line) r' area x' → (r ≡ r') × (x ≡ x')
bytes_at_one line k = sent_one (bytes_at k line)

pub letter_at_one : (line : List ℕ) (k r r' : ℕ) → r ≡ get_or (word_at k line) 0 0 → r' ≡ get_or (word_at k line) 0 0 → r ≡ r'
letter_at_one line k r r' p q = p ∙ sym q

pub word_at_one : (line : List ℕ) (k : ℕ) (r r' : List ℕ) → r ≡ word_at k line → r' ≡ word_at k line → r ≡ r'
word_at_one line k r r' p q = p ∙ sym q

pub are_shaped_one : (line : List ℕ) (kinds : List Kind) (r r' : Bool) → r ≡ shaped kinds (drop 1 (words_in line)) → r' ≡ shaped kinds (drop 1 (words_in line)) → r ≡ r'
are_shaped_one line kinds r r' p q = p ∙ sym q

pub spaces_in_one : (line : List ℕ) (r r' : ℕ) → suc r ≡ length (words_in line) → suc r' ≡ length (words_in line) → r ≡ r'
spaces_in_one line r r' p q = omega (arith, p, q)
