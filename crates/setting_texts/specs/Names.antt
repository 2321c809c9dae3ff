-- Document 01, "SDCP and VMC": the names that STATset and STATget take, and the words of their values.
use Rattle.std.specs.Prelude.{ℕ, List, [], ◌∷◌, ◌++◌, map, get_or}
use Rattle.laws.specs.Bytes.{ascii}
use Rattle.settings.specs.Table.{Setting, all_named}

-- the names of the settings, 0 to 20, then SHIFTH and SHIFTV, 21 and 22
abbrev pub names : List (List ℕ)
names = map (λ (s : Setting). s.name) all_named ++ (ascii "SHIFTH" ∷ ascii "SHIFTV" ∷ [])

abbrev pub name_of : ℕ → List ℕ
name_of k = get_or names k []

-- each name with what parts it from its value: a space, save behind MODE and NTSC
abbrev pub leads : List (List ℕ)
leads = map (λ (s : Setting). s.name ++ s.between) all_named ++ (ascii "SHIFTH " ∷ ascii "SHIFTV " ∷ [])

abbrev pub lead_of : ℕ → List ℕ
lead_of k = get_or leads k []

-- the words of a setting's values; levels and shifts have none, their values are numbers
abbrev pub words_of : ℕ → List (List ℕ)
words_of k = get_or (map (λ (s : Setting). s.words) all_named) k []

-- the word of a value; no word for a value that the setting does not have
abbrev pub word_of : ℕ → ℕ → List ℕ
word_of k v = get_or (words_of k) v []
