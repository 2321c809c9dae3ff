-- `is_question` asks for the word alone, then for the word and a space, as the definition does.
use mathlib.Core.Path.{◌≡◌, sym, ap, ◌∙◌}
use mathlib.Core.Bool.{Bool}
use mathlib.Core.List.{List}
use Prim.Native.Nat.{ℕ}
use lib.Dec.{eqb}
use Rattle.std.specs.Cmp.Lexicographic.{pointwise}
use Rattle.laws.specs.Bytes.{ascii, same}
use Rattle.laws.proofs.Library.{same_pointwise, begins_starts}
use Rattle.vmc_asks.specs.Asks.{is_question}
use Rattle.vmc_asks.proofs.is_question.Goals as goal

-- whether the text is the word alone
alone : (s w : List ℕ) (r : Bool) → r ≡ pointwise eqb s w → w ≡ ascii "STATget" → same s (ascii "STATget") ≡ r
alone s w r e f = sym (same_pointwise s (ascii "STATget")) ∙ ap (pointwise eqb s) (sym f) ∙ sym e

pub returns-then-eq : goal.returns-then-eq
unfolding is_question
returns-then-eq c = c.if-eq.true ∙ sym (rw (alone c.args.s.now _ _ c.eq.ensures c.as_slice.ensures ∙ c.if-eq.true))

pub returns-else-eq : goal.returns-else-eq
unfolding is_question
returns-else-eq c =
    let s = c.args.s.now in
    c.starts_with.ensures.value ∙ begins_starts (ascii "STATget ") s ∙ sym (rw (alone s _ _ c.eq.ensures c.as_slice.ensures ∙ c.if-eq.false))
