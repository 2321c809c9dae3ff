-- `shift_order` goes by the sign, and lends on what stands behind it.
use mathlib.Core.Path.{sym, ap, ◌∙◌}
use mathlib.Core.Bool.{true, false}
use mathlib.Core.List.{List}
use Prim.Native.Nat.{ℕ}
use Rattle.laws.specs.Bytes.{ascii}
use Rattle.vmc_asks.specs.Asks.{level_of, shift_by, shift_order}
use Rattle.vmc_asks.proofs.Fronts.{strips_is}
use Rattle.vmc_asks.proofs.shift_order.Goals as goal

pub returns-in-Some : goal.returns-in-Some
unfolding shift_order
returns-in-Some c =
    let f = c.in-Some.ensures.cases in
    c.shift_by.ensures ∙ ap (λ (t : List ℕ). shift_by c.args.axis false 1 (level_of t)) f.1 ∙ sym (rw (strips_is (ascii "+") c.args.s.now ∙ f.0))

pub returns-in-Some-strip_prefix : goal.returns-in-Some-strip_prefix
unfolding shift_order
returns-in-Some-strip_prefix c =
    let s = c.args.s.now in
    let f = c.in_default.ensures.cases in
    let g = c.in-Some-strip_prefix.ensures.cases in
    c.shift_by-in-Some-strip_prefix.ensures ∙ ap (λ (t : List ℕ). shift_by c.args.axis true 1 (level_of t)) g.1
    ∙ sym (rw (strips_is (ascii "+") s ∙ f, strips_is (ascii "-") s ∙ g.0))

pub returns : goal.returns
unfolding shift_order
returns c =
    let s = c.args.s.now in
    let f = c.in_default.ensures.cases in
    let g = c.in_default-strip_prefix.ensures.cases in
    c.shift_by-2.ensures ∙ sym (rw (strips_is (ascii "+") s ∙ f, strips_is (ascii "-") s ∙ g))
