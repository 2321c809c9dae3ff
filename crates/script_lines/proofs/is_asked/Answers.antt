-- `is_asked` compares the first word, then the kinds of the rest.
use Rattle.std.proofs.Common.{◌≡◌, sym, ap, ◌∙◌, List, ℕ, true, false}
use Rattle.laws.specs.Bytes.{same}
use Rattle.laws.proofs.Library.{same_pointwise}
use Rattle.script_words.specs.Words.{word_at}
use Rattle.script_lines.specs.Orders.{asks}
use Rattle.script_lines.proofs.is_asked.Goals as goal

pub returns-then-eq : goal.returns-then-eq
unfolding asks
returns-then-eq c =
    let word = c.args.word.now in
    let e : same (word_at 0 c.args.line.now) word ≡ true = ap (λ (w : List ℕ). same w word) (sym c.word_at.ensures) ∙ sym (same_pointwise _ word) ∙ sym c.if-eq.ensures in
    rw e c.are_shaped.ensures

pub returns-else-eq : goal.returns-else-eq
unfolding asks
returns-else-eq c =
    let word = c.args.word.now in
    let e : same (word_at 0 c.args.line.now) word ≡ false = ap (λ (w : List ℕ). same w word) (sym c.word_at.ensures) ∙ sym (same_pointwise _ word) ∙ sym c.if-eq.ensures in
    rw e c.if-eq.false
