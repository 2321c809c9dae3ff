-- docs/SCRIPTS.md, `box`: the configuration that a line writes.
use Rattle.std.specs.Prelude.{ℕ, zero, suc, ◌+◌, ◌-◌, ◌/◌, cond, List, [], ◌∷◌, leb, length, get_or}
use Rattle.script_words.specs.Words.{words_in, word_at, number_at}

-- three words a panel
unfoldable pub panels_in : List ℕ → ℕ
panels_in line = (length (words_in line) - 1) / 3

-- the configuration of n panels from word k on: the family's letter, the group and the unit of each
unfoldable pub configuration : ℕ → ℕ → List ℕ → List ℕ
configuration zero k line = []
configuration (suc n) k line =
    get_or (word_at k line) 0 0 ∷ number_at 255 (k + 1) line ∷ number_at 255 (k + 2) line ∷ configuration n (k + 3) line

-- that of a line; none where more than sixteen panels are written
unfoldable pub configuration_of : List ℕ → List ℕ
configuration_of line = cond (leb (panels_in line) 16) (configuration (panels_in line) 1 line) []
