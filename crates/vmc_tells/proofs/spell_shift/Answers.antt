-- `spell_shift` writes 0 as it is, and else puts the sign before the digits of the size.
use mathlib.Core.Path.{◌≡◌, refl, sym, ap, ◌∙◌}
use mathlib.Core.List.{List, ◌++◌}
use Prim.Native.Nat.{ℕ}
use lib.ListN.{length}
use lib.IntN.{ℤ, pos, negsuc, nat_abs}
use borrow.Author.Tests.{ne_eqb}
use borrow.Author.Rules.{rules}
use native.Mathlib.Numerals.{add-one}
use native.Mathlib.Omega.{arith}
use mir.Syntax.{w8}
use mir.Val.{to_z, of_z}
use mir.Facts.{to_z-of_z, to_z_pos}
use Rattle.setting_texts.specs.Names.{lead_of}
use Rattle.vmc_tells.specs.Phrases.{textual}
use Rattle.vmc_tells.specs.Texts.{size_of, sign_of, shift_words}
use Rattle.vmc_tells.proofs.Phrases.{numeral_short, digits_length, signed_front}
use Rattle.vmc_tells.proofs.spell_shift.Goals as goal

-- a size is the library's
size_is : (z : ℤ) → nat_abs z ≡ size_of z
size_is (pos n) = refl
size_is (negsuc n) = sym (add-one n)

-- a size of 0 is 0
nothing : (z : ℤ) → size_of z ≡ 0 → z ≡ pos 0
nothing (pos n) e = ap pos e
nothing (negsuc n) e = absurd (omega arith)

pub slice_bounds-phrase-end-3 : goal.slice_bounds-phrase-end-3
slice_bounds-phrase-end-3 c =
    let n = c.numeral_of-size in
    let v = c.unsigned_abs.result in
    let e = digits_length v n.result n.ensures in
    let f = ap length (signed_front c.sign_of.result v n.result n.ensures (search rules)) in
    omega (arith, e, f)

pub returns-then-z-eq0 : goal.returns-then-z-eq0
unfolding shift_words
returns-then-z-eq0 c =
    let a = c.args in
    let z : a.z ≡ pos 0 = sym (to_z-of_z c.ranges.z) ∙ ap (to_z w8) c.if-z-eq0.true ∙ to_z_pos w8 (omega arith) in
    c.phrase.ensures ∙ sym (ap (λ (y : ℤ). textual (lead_of a.k ++ shift_words y)) z)

pub overflow_add-size : goal.overflow_add-size
overflow_add-size c =
    let n = c.numeral_of-size in
    let e = digits_length c.unsigned_abs.result n.result n.ensures in
    let h = numeral_short c.unsigned_abs.result in
    omega (arith, e, h)

pub slice_bounds-phrase-end-2 : goal.slice_bounds-phrase-end-2
slice_bounds-phrase-end-2 c =
    let n = c.numeral_of-size in
    let e = digits_length c.unsigned_abs.result n.result n.ensures in
    let h = numeral_short c.unsigned_abs.result in
    omega (arith, e, h)

pub returns : goal.returns
unfolding shift_words
returns c =
    let x = c in
    let z = x.args.z in
    let q : to_z w8 (of_z w8 z) ≡ z = to_z-of_z x.ranges.z in
    let n = c.numeral_of-size in
    let v = c.unsigned_abs.result in
    let size : v ≡ size_of z = c.unsigned_abs.ensures.value ∙ ap nat_abs q ∙ size_is z in
    let sign : c.sign_of.result ≡ sign_of z = c.sign_of.ensures ∙ ap sign_of q in
    let some : size_of z ≡ 0 → ⊥ = λ e. c.if-z-eq0.false (ap (of_z w8) (nothing z e)) in
    c.phrase-2.ensures
    ∙ ap (λ (d : List ℕ). textual (lead_of x.args.k ++ d))
    (signed_front c.sign_of.result v n.result n.ensures (search rules) ∙ rw (sign, size) (sym (rw (ne_eqb (size_of z) 0 some))))
