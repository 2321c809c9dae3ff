-- The lines of scripts, by computation: with the last 0Ah and without it, and where a line is empty.
use mathlib.Core.Path.{◌≡◌, refl}
use mathlib.Core.List.{[], ◌∷◌}
use Rattle.laws.specs.Bytes.{ascii}
use Rattle.script_run.specs.Scripts.{lines_of}

ended : lines_of (0x61 ∷ 0x62 ∷ 0x0a ∷ 0x63 ∷ 0x0a ∷ []) ≡ ascii "ab" ∷ ascii "c" ∷ []
unfolding lines_of
ended = refl

last_not_ended : lines_of (0x61 ∷ 0x62 ∷ 0x0a ∷ 0x63 ∷ []) ≡ ascii "ab" ∷ ascii "c" ∷ []
unfolding lines_of
last_not_ended = refl

empty_lines : lines_of (0x0a ∷ 0x0a ∷ []) ≡ [] ∷ [] ∷ []
unfolding lines_of
empty_lines = refl

no_script : lines_of [] ≡ []
unfolding lines_of
no_script = refl
