-- `scene_of` compares with the three words in turn.
use Prim.Native.Nat.{ℕ}
use mathlib.Core.Path.{◌≡◌, sym}
use mathlib.Core.List.{List}
use Rattle.std.proofs.Common.{nat_eq}
use Rattle.std.specs.Cmp.Lexicographic.{pointwise}
use Rattle.laws.specs.Bytes.{same}
use Rattle.laws.proofs.Library.{same_pointwise}
use Rattle.kjw_sets.specs.Sets.{chosen_from}
use Rattle.kjw_sets.proofs.scene_of.Goals as goal

pub returns : goal.returns
unfolding chosen_from
returns c =
    let compared : (l m : List ℕ) → same l m ≡ pointwise nat_eq l m = λ l m. sym (same_pointwise l m) in
    simp (compared, sym c.as_slice.ensures, sym c.as_slice-2.ensures, sym c.as_slice-3.ensures, sym c.eq.ensures, sym c.eq-2.ensures, sym c.eq-3.ensures, c.if-eq.false, c.if-eq-2.false, c.if-eq-3.false)
