-- `number_in` hands on what the number reader read, which is at most a number of 32 bits.
use mathlib.Core.Path.{◌∙◌, ◌≡◌, ap, refl}
use Prim.Native.Nat.{ℕ}
use native.Mathlib.Omega.{arith}
use Rattle.std.specs.Prelude.{Option, Some, None}
use Rattle.std.specs.Option.{unwrap_or}
use Rattle.script_words.specs.Words.{value_of}
use Rattle.script_words.proofs.Laws.{word_most}
use Rattle.script_words.proofs.number_in.Goals as goal

value : (n : Option ℕ) → unwrap_or n 0 ≡ value_of n
value (Some v) = refl
value None = refl

pub overflow_cast-result : goal.overflow_cast-result
overflow_cast-result c =
    let h = word_most c.args.most c.args.w.now in
    let e = c.unwrap_or.ensures ∙ value c.plain_number.result ∙ ap value_of c.plain_number.ensures in
    omega arith
