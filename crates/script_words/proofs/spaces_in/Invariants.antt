-- `spaces_in` counts the spaces passed, and a line has a word more than spaces.
use Rattle.std.proofs.Common.{◌≡◌, ◌≤◌, ◌+◌, length, drop}
use Rattle.script_words.proofs.Words.{spaces}
use Rattle.script_words.proofs.spaces_in.Given as goal

abbrev pub invariant-loop-i : goal.invariant-loop-i
invariant-loop-i l = (l.i-end ≡ length l.line) × (l.n ≤ l.i) × (l.n + spaces (drop l.i l.line) ≡ spaces l.line)
