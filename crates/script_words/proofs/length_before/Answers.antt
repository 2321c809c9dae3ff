-- `length_before` is the place of the first c, and the whole length where there is none.
use Prim.Native.Nat.{ℕ}
use mathlib.Core.List.{List}
use mathlib.Core.Path.{◌∙◌, ◌≡◌, sym}
use lib.ListN.{length}
use borrow.Author.Rules.{rules}
use borrow.Author.Tests.{tests}
use native.Mathlib.Omega.{arith}
use Rattle.std.proofs.lemmas.Iterator.{IsFirst-from_position, YieldsList-from_slice, index_from_first}
use Rattle.script_words.specs.Words.{before}
use Rattle.script_words.proofs.Words.{before_fits, before_hit, before_miss, before_none}
use Rattle.script_words.proofs.length_before.Goals as goal

pub returns : goal.returns
returns c =
    let x = c.args.c in
    let s = c.args.s.now in
    let first = IsFirst-from_position _ _ c.position.result (λ (b : ℕ). b ≡ x) (λ (b : ℕ). b ≡ x → ⊥) c.position.ensures.ran (YieldsList-from_slice s cc) (λ b q k. search (rules, tests)) (λ b q k. search (rules, tests)) in
    let e = c.unwrap_or.ensures ∙ sym (index_from_first (λ (l : List ℕ). length (before x l)) (λ (b : ℕ). b ≡ x) (λ (b : ℕ). b ≡ x → ⊥) (before_none x) (before_hit x) (before_miss x) s c.position.result first) in
    let fits = before_fits x s in
    (e, omega arith)
