-- Forms: a text with a number in the place of each `#`.
use Rattle.std.specs.Prelude.{ℕ, cond, List, [], ◌∷◌, ◌++◌, eqb, drop, get_or}
use Rattle.decimals.specs.Plain.{plain}

-- a form with a number in the place of each `#`, 0 where there are no more
unfoldable pub mark_text : ℕ → ℕ → List ℕ
mark_text x v = cond (eqb x 0x23) (plain v) (x ∷ [])

unfoldable pub marks_of : ℕ → ℕ
marks_of x = cond (eqb x 0x23) 1 0

unfoldable pub numbers_text : List ℕ → List ℕ → List ℕ
numbers_text [] vs = []
numbers_text (x ∷ form) vs = mark_text x (get_or vs 0 0) ++ numbers_text form (drop (marks_of x) vs)
