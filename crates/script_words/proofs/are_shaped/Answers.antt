-- `are_shaped` asks for as many words as kinds, and each for its own.
use Prim.Native.Nat.{ℕ}
use mathlib.Core.Bool.{false, true}
use mathlib.Core.List.{List}
use mathlib.Core.Path.{◌∙◌, ◌≡◌, ap, sym}
use native.Mathlib.Omega.{arith}
use lib.Dec.{eqb}
use lib.ListN.{drop, length, length-drop}
use borrow.Author.Rules.{rules}
use borrow.Author.Tests.{eq-eqb, ne_eqb, tests}
use Rattle.std.proofs.lemmas.Iterator.{YieldsList-from_slice, YieldsList-from_zip}
use Rattle.std.proofs.lemmas.Iterator.Adapters.{YieldsList-from_skip}
use Rattle.std.proofs.lemmas.Iterator.Consumers.{YieldsList-at}
use Rattle.std.proofs.lemmas.Iterator.Search.{all_from_yields_List}
use Rattle.std.proofs.lemmas.Iterator.Splits.{YieldsList-from_slice_split}
use Rattle.std.specs.List.{list_all, zip}
use Rattle.script_words.specs.Words.{words_in}
use Rattle.script_words.proofs.Shapes.{is_of, shaped_zip}
use Rattle.script_words.proofs.Words.{words_split}
use Rattle.script_words.proofs.are_shaped.Goals as goal

pub returns-then-spaces_in-kinds : goal.returns-then-spaces_in-kinds
returns-then-spaces_in-kinds c =
    let kinds = c.args.kinds.now in
    let line = c.args.line.now in
    let size = length-drop 1 (words_in line) in
    let count = c.spaces_in.ensures in
    let n : eqb (length (drop 1 (words_in line))) (length kinds) ≡ true = eq-eqb _ _ (omega arith) in
    all_from_yields_List is_of c.all.new.self _ c.all.result c.all.ensures.ran (YieldsList-from_zip (YieldsList-at c.zip.ensures.first (YieldsList-from_slice kinds cc)) (YieldsList-at c.zip.ensures.second (YieldsList-from_skip 1 (YieldsList-at c.skip-words.ensures.source (YieldsList-from_slice_split _ (λ (b : ℕ). eqb b 0x20) line c.split.ensures.rest c.split.ensures.done c.split.ensures.closure (λ x b q k. search (rules, tests)))) c.skip-words.ensures.count))) (λ p b q k. search rules)
    ∙ ap (λ (ws : List (List ℕ)). list_all is_of (zip kinds (drop 1 ws))) (words_split line)
    ∙ sym (shaped_zip kinds (drop 1 (words_in line)) ∙ rw n)

pub returns-else-spaces_in-kinds : goal.returns-else-spaces_in-kinds
returns-else-spaces_in-kinds c =
    let kinds = c.args.kinds.now in
    let words = drop 1 (words_in c.args.line.now) in
    let size = length-drop 1 (words_in c.args.line.now) in
    let count = c.spaces_in.ensures in
    let no = c.if-spaces_in-kinds.false in
    let n : eqb (length words) (length kinds) ≡ false = ne_eqb _ _ (λ e. no (omega arith)) in
    ne_eqb _ _ no ∙ sym (shaped_zip kinds words ∙ rw n)
