-- docs/SCRIPTS.md, `write`: the advert that the words of a line ask for.
use Rattle.std.specs.Prelude.{List, [], ◌∷◌, ℕ}
use Rattle.sdap.specs.Layout.{advert_of}
use Rattle.sdap.specs.declared.Advert.{Advert as Fields}
use Rattle.script_words.specs.Words.{number_at, bytes_at}
use Rattle.script_words.specs.Kinds.{most_n}

-- the fields behind `write`, in the order of its words
unfoldable pub wanted : List ℕ → Fields
wanted line =
    advert_of (number_at 255 2 line) (bytes_at 3 line) (number_at most_n 4 line) (number_at 65535 5 line) (bytes_at 6 line)
    (number_at most_n 7 line) (number_at most_n 8 line ∷ number_at most_n 9 line ∷ number_at most_n 10 line ∷ number_at most_n 11 line ∷ [])
    (number_at 65535 12 line) (bytes_at 13 line) (bytes_at 14 line)
    (record { 0 = number_at 255 15 line }) (record { 0 = number_at 255 16 line })
