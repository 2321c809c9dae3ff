-- docs/SCRIPTS.md, "Orders", `plain`: how what the plain reader lists is written.
use Rattle.std.specs.Prelude.{ℕ, cond, List, [], ◌∷◌, ◌++◌, eqb, take}
use Rattle.laws.specs.Bytes.{ascii}
use Rattle.reader.specs.declared.Listing.{Listing}
use Rattle.script_text.specs.Texts.{number_text}

-- "S:L", "each entry's start and length"
unfoldable pub entry_text : ℕ → ℕ → List ℕ
entry_text start length = number_text (ascii " ") start ++ number_text (ascii ":") length

unfoldable pub entries_text : List ℕ → List ℕ → List ℕ
entries_text [] ls = []
entries_text (s ∷ ss) [] = []
entries_text (s ∷ ss) (l ∷ ls) = entry_text s l ++ entries_text ss ls

-- those that are listed
abbrev pub listed_text : Listing → List ℕ
listed_text l = entries_text (take l.count l.starts) (take l.count l.lengths)

-- "`end N`", and "`stop N` in place of `end N`"
unfoldable pub end_text : Listing → List ℕ
end_text l = cond (eqb l.stopped 0) (number_text (ascii " end ") l.end) (number_text (ascii " stop ") l.end)

-- "`plain S:L S:L .. end N`"
unfoldable pub plain_text : Listing → List ℕ
plain_text l = ascii "plain" ++ listed_text l ++ end_text l
