-- `is_family` asks for the two letters in the definition's order.
use Rattle.std.proofs.Common.{◌≡◌, sym, ap, ◌∙◌, [], ◌∷◌}
use mathlib.Core.Bool.{false}
use Rattle.laws.specs.Bytes.{same}
use Rattle.laws.proofs.Library.{same_pointwise}
use Rattle.script_words.specs.Kinds.{is_family}
use Rattle.script_words.proofs.is_family.Goals as goal

pub returns-else-eq : goal.returns-else-eq
unfolding is_family
returns-else-eq c =
    let w = c.args.w.now in
    let no : same w (0x57 ∷ []) ≡ false = ap (same w) (sym c.as_slice.ensures) ∙ sym (same_pointwise w _) ∙ sym c.if-eq.ensures in
    rw no (c.eq-else-eq.ensures ∙ same_pointwise w _ ∙ ap (same w) c.as_slice-else-eq.ensures)
