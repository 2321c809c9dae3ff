-- Words are read without the end that their string has: the end is taken off before, and it is all that is.
use Prim.Native.Nat.{ℕ}
use mathlib.Core.Path.{◌≡◌, refl, sym, ap, ◌∙◌}
use mathlib.Core.Bool.{true, false}
use mathlib.Core.List.{List, []}
use Rattle.trimming.specs.Trimming.{unterminated, unspaced, trimmed}
use Rattle.trimming.proofs.Trimmed.{Ended, ends_bare, trims, bare_trimmed}
use Rattle.vmc_asks.specs.Asks.{read_words, read_data, is_question, asks_status}
use Rattle.std.specs.Prelude.{None}

-- data with such an end asks what it asks without
pub read_ended : (t d : List ℕ) → ends_bare t ≡ true → Ended t d → read_data d ≡ read_data t
unfolding read_data
read_ended t d b e = ap read_words (trims t d b e ∙ sym (bare_trimmed t b))

-- "Data of spaces alone, or of none, is not understood."
pub none_understood : (d : List ℕ) → Ended [] d → read_data d ≡ None
unfolding ends_bare read_data read_words
none_understood d e = ap read_words (trims [] d refl e)

-- data with such an end is a question where it is one without
pub question_ended : (t d : List ℕ) → ends_bare t ≡ true → Ended t d → asks_status d ≡ asks_status t
unfolding asks_status
question_ended t d b e = ap is_question (trims t d b e ∙ sym (bare_trimmed t b))

-- no data asks for nothing
pub nothing_asked : asks_status [] ≡ false
unfolding asks_status is_question trimmed unspaced unterminated
nothing_asked = refl
