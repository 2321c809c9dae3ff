-- Document 01, "SDCP and VMC": whose name a text is, and which of a setting's values has a word.
use Rattle.std.specs.Prelude.{ℕ, zero, suc, ◌+◌, Bool, cond, List, length, Option, Some, None}
use Rattle.laws.specs.Bytes.{same, begins}
use Rattle.settings.specs.Table.{name_count}
use Rattle.setting_texts.specs.Names.{name_of, lead_of, words_of, word_of}

-- the first of n numbers from i on of which f says yes
abbrev pub first_of : ℕ → ℕ → (ℕ → Bool) → Option ℕ
first_of zero i f = None
first_of (suc n) i f = cond (f i) (Some i) (first_of n (i + 1) f)

-- whose name is s
unfoldable pub named_by : List ℕ → Option ℕ
named_by s = first_of name_count 0 (λ (k : ℕ). same (name_of k) s)

-- whose name, with what parts it from its value, begins s
unfoldable pub led_by : List ℕ → Option ℕ
led_by s = first_of name_count 0 (λ (k : ℕ). begins (lead_of k) s)

-- which of its values has the word s
unfoldable pub chosen_by : ℕ → List ℕ → Option ℕ
chosen_by k s = first_of (length (words_of k)) 0 (λ (v : ℕ). same (word_of k v) s)
