-- Document 02, §2: "Before words are split, one final 00h is taken off if there, then all spaces at the end."
use Rattle.std.specs.Prelude.{ℕ, cond, List, [], ◌∷◌, eqb}

-- "one final 00h is taken off if there"
unfoldable pub unterminated : List ℕ → List ℕ
unterminated [] = []
unterminated (x ∷ []) = cond (eqb x 0x00) [] (x ∷ [])
unterminated (x ∷ y ∷ s) = x ∷ unterminated (y ∷ s)

-- a space stays where something stays behind it
abbrev pub in_front : ℕ → List ℕ → List ℕ
in_front x [] = cond (eqb x 0x20) [] (x ∷ [])
in_front x (y ∷ s) = x ∷ y ∷ s

-- "all spaces at the end" are taken off
unfoldable pub unspaced : List ℕ → List ℕ
unspaced [] = []
unspaced (x ∷ s) = in_front x (unspaced s)

-- "one final 00h is taken off if there, then all spaces at the end"
unfoldable pub trimmed : List ℕ → List ℕ
trimmed d = unspaced (unterminated d)
