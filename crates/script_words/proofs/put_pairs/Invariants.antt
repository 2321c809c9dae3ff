-- `put_pairs` lays a byte a turn over the front: byte i is written by digits 2i and 2i + 1.
use mathlib.Core.Path.{◌≡◌}
use lib.Seq.{paste}
use Rattle.script_words.specs.Words.{bytes_in}
use Rattle.script_words.proofs.put_pairs.Given as goal

abbrev pub invariant-loop-i : goal.invariant-loop-i
invariant-loop-i l = l.area ≡ paste l.initial.area 0 (bytes_in l.w) l.i
