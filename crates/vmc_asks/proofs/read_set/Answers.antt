-- `read_set` finds the name that leads the words, and lends on what stands behind it.
use mathlib.Core.Path.{◌≡◌, sym, ap, subst, ◌∙◌}
use mathlib.Core.Bool.{Bool, false}
use mathlib.Core.List.{List}
use Prim.Native.Nat.{ℕ, ◌≤◌}
use lib.ListN.{length, drop}
use native.Mathlib.Omega.{arith}
use Rattle.std.specs.Prelude.{Some}
use lib.Dec.{eqb}
use Rattle.std.specs.Cmp.Lexicographic.{pointwise}
use Rattle.laws.specs.Bytes.{ascii, begins, same}
use Rattle.laws.proofs.Library.{same_pointwise}
use Rattle.laws.proofs.Lists.{rest}
use Rattle.laws.proofs.Texts.{begins_fits}
use Rattle.setting_texts.specs.Names.{lead_of}
use Rattle.setting_words.specs.Names.{led_by}
use Rattle.setting_words.proofs.Search.{Right}
use Rattle.setting_words.proofs.Choices.{led_right}
use Rattle.vmc_asks.specs.Asks.{set_order, value_order, read_set}
use Rattle.vmc_asks.proofs.read_set.Goals as goal

-- the name that was found lies in the words
fits : (s : List ℕ) (k n : ℕ) → led_by s ≡ Some k → n ≡ length (lead_of k) → n ≤ length s
fits s k n e l =
    let r : Right (λ (j : ℕ). begins (lead_of j) s) 23 (Some k) = subst (Right (λ (j : ℕ). begins (lead_of j) s) 23) e (led_right s) in
    let h = begins_fits (lead_of k) s r.passes in
    omega (arith, h, l)

-- whether the words are `RESET`
resets : (s w : List ℕ) (r : Bool) → r ≡ pointwise eqb s w → w ≡ ascii "RESET" → same s (ascii "RESET") ≡ r
resets s w r e f = sym (same_pointwise s (ascii "RESET")) ∙ ap (pointwise eqb s) (sym f) ∙ sym e

-- words that are not `RESET` go by the name that leads them
ordered : (s : List ℕ) → same s (ascii "RESET") ≡ false → set_order (led_by s) s ≡ read_set s
unfolding read_set
ordered s e = sym (rw e)

pub returns-then-eq : goal.returns-then-eq
unfolding read_set
returns-then-eq c = sym (rw (resets c.args.s.now _ _ c.eq.ensures c.as_slice.ensures ∙ c.if-eq.true))

pub returns-in_err-k : goal.returns-in_err-k
returns-in_err-k c =
    let s = c.args.s.now in
    c.from_residual.ensures ∙ ap (λ x. set_order x s) (sym c.in_err-k.was ∙ c.led.ensures) ∙ ordered s (resets s _ _ c.eq.ensures c.as_slice.ensures ∙ c.if-eq.false)

pub slice_bounds-value_order-count : goal.slice_bounds-value_order-count
slice_bounds-value_order-count c = fits c.args.s.now c.in_ok-k.k (length c.lead.result.now) (sym c.led.ensures ∙ c.in_ok-k.was) (ap length c.lead.ensures)

pub slice_bounds-value_order-start : goal.slice_bounds-value_order-start
slice_bounds-value_order-start c =
    let h = fits c.args.s.now c.in_ok-k.k (length c.lead.result.now) (sym c.led.ensures ∙ c.in_ok-k.was) (ap length c.lead.ensures) in
    omega (arith, h)

pub returns : goal.returns
returns c =
    let s = c.args.s.now in
    let k = c.in_ok-k.k in
    c.value_order.ensures
    ∙ ap (value_order k) (rest s (length c.lead.result.now) ∙ ap (λ (n : ℕ). drop n s) (ap length c.lead.ensures))
    ∙ ap (λ x. set_order x s) (sym c.in_ok-k.was ∙ c.led.ensures)
    ∙ ordered s (resets s _ _ c.eq.ensures c.as_slice.ensures ∙ c.if-eq.false)
