-- docs/SCRIPTS.md: what a line writes has to fit the area that the program lends.
use Rattle.std.specs.Prelude.{ℕ}

-- the bytes of that area
abbrev pub room : ℕ
room = 24576
