-- The library's `strip_prefix` takes off a front that begins the text: it asks both byte for byte, as the definition does.
use mathlib.Core.Path.{◌≡◌, refl, ap, ◌∙◌}
use mathlib.Core.Bool.{Bool, ◌&&◌}
use mathlib.Core.List.{List, [], ◌∷◌}
use Prim.Native.Nat.{ℕ}
use lib.Dec.{eqb}
use lib.ListN.{length, take}
use Rattle.std.specs.Cmp.{nat_eq_equiv}
use Rattle.std.specs.Cmp.Lexicographic.{pointwise}
use Rattle.laws.specs.Bytes.{begins}

pub strips_is : (p s : List ℕ) → begins p s ≡ pointwise eqb (take (length p) s) p
strips_is [] s = refl
strips_is (x ∷ p) [] = refl
strips_is (x ∷ p) (y ∷ s) = ap (λ (b : Bool). b && begins p s) (nat_eq_equiv.symm x y) ∙ ap (λ (b : Bool). eqb y x && b) (strips_is p s)
