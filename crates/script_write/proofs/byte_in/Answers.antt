-- `byte_in` reads a number of at most 255, which is a byte.
use Prim.Native.Nat.{◌≤◌}
use borrow.Author.Rules.{rules}
use Rattle.script_words.proofs.Laws.{number_most}
use Rattle.script_write.proofs.byte_in.Goals as goal

pub overflow_cast-result : goal.overflow_cast-result
overflow_cast-result c =
    let h : c.number_at.result ≤ 255 = rw c.number_at.ensures (number_most 255 _ _) in
    search rules
