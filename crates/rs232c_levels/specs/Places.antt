-- For the contracts of the code alone, no sentence of the document: what a mask that begins at a place says of that place.
use Rattle.std.specs.Prelude.{ℕ, ◌%◌, cond, eqb, Some, None}
use Rattle.rs232c_levels.specs.Levels.{Say}

abbrev pub said : ℕ → ℕ → Say
said mask v = cond (eqb (mask % 2) 1) (Some v) None
