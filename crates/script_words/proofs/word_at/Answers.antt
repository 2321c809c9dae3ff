-- `word_at` is the part that `split` gives at k.
use Prim.Native.Nat.{ℕ}
use mathlib.Core.Path.{◌∙◌, ap}
use lib.Dec.{eqb}
use borrow.Author.Rules.{rules}
use borrow.Author.Tests.{tests}
use Rattle.std.proofs.Common.{Bor, List}
use Rattle.std.proofs.lemmas.Iterator.Consumers.{nth_from_yields_List}
use Rattle.std.proofs.lemmas.Iterator.Splits.{YieldsList-from_slice_split}
use Rattle.script_words.proofs.Words.{word_picked}
use Rattle.script_words.proofs.word_at.Goals as goal

pub returns : goal.returns
returns c =
    let line = c.args.line.now in
    let picked = nth_from_yields_List c.nth.result _ c.args.k c.nth.ensures.ran (YieldsList-from_slice_split _ (λ (b : ℕ). eqb b 0x20) line c.split.ensures.rest c.split.ensures.done c.split.ensures.closure (λ x b q k. search (rules, tests))) in
    ap (λ (w : Bor (List ℕ)). w.now) c.unwrap_or.ensures ∙ word_picked c.nth.result _ line c.args.k picked c.as_slice.ensures
