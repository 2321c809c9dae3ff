-- `configure` refuses what breaks a rule; more than 24 bytes always do (`Long`).
use Prim.Native.Nat.{ℕ, ◌%◌}
use mathlib.Core.Path.{◌≡◌, refl, sym, ap, ◌∙◌}
use mathlib.Core.Bool.{Bool, true, false, ◌&&◌}
use mathlib.Core.List.{List}
use lib.ListN.{length}
use lib.Dec.{eqb}
use borrow.Author.Tests.{eq-eqb, ne_eqb}
use Rattle.panels.specs.Valid.{valid}
use Rattle.configure.specs.Configure.{asked, refusal, configured}
use Rattle.configure.specs.declared.Configured.{Configured}
use Rattle.panels.specs.declared.DisplayBox.{DisplayBox}
use Rattle.configure.proofs.configure.Goals as goal

abbrev keeps : List ℕ → Bool
keeps c = eqb (length c % 3) 0 && valid (asked c)

refusing : (c : List ℕ) (r : Configured) → r ≡ refusal → keeps c ≡ false → r ≡ configured c
unfolding configured
refusing c r e b = e ∙ sym (rw b)

not_valid : (c : List ℕ) (b : DisplayBox) (v : Bool) → b ≡ asked c → v ≡ valid b → v ≡ false → keeps c ≡ false
not_valid c b v e f z = go (eqb (length c % 3) 0)
  where
    go : (t : Bool) → (t && valid (asked c)) ≡ false
    go true = sym (ap valid e) ∙ sym f ∙ z
    go false = refl

pub returns-then-c-ne0 : goal.returns-then-c-ne0
returns-then-c-ne0 c = refusing c.args.c.now c.refused-then-c-ne0.result c.refused-then-c-ne0.ensures (rw (ne_eqb _ _ c.if-c-ne0.true))

pub returns-then-not-is_valid : goal.returns-then-not-is_valid
returns-then-not-is_valid c =
    let no = not_valid c.args.c.now c.asked_box-b.result c.is_valid.result c.asked_box-b.ensures c.is_valid.ensures c.if-not-is_valid.true in
    refusing c.args.c.now c.refused-then-not-is_valid.result c.refused-then-not-is_valid.ensures no

pub returns : goal.returns
unfolding configured
returns c =
    let s = c.args.c.now in
    let v : valid (asked s) ≡ true = sym (ap valid c.asked_box-b.ensures) ∙ sym c.is_valid.ensures ∙ c.if-not-is_valid.false in
    rw (c.asked_box-b.ensures, eq-eqb _ _ c.if-c-ne0.false, v)
