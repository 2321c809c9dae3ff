-- `value_at` reads the two bytes of a word where both stand before the checksum.
use mathlib.Core.Path.{sym}
use Rattle.rs232c_levels.proofs.Values.{no_value}
use Rattle.rs232c_levels.proofs.value_at.Goals as goal

pub returns-then-m-j : goal.returns-then-m-j
returns-then-m-j c = sym (no_value _ _ c.if-m-j.true)
