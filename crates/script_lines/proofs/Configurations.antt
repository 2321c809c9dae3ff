-- The kinds of the words of a `box` line: those of n panels are a panel's, n times over.
use Prim.Native.Nat.{◌+◌, ◌-◌, ◌≤◌, suc, zero, ℕ}
use mathlib.Core.List.{List, [], ◌∷◌}
use mathlib.Core.Path.{◌∙◌, ◌≡◌, ap, refl}
use native.Mathlib.Omega.{arith}
use lib.ListN.{replicate, take}
use Rattle.std.specs.List.{flat_map}
use Rattle.script_words.specs.declared.Kind.{Kind}
use Rattle.script_words.specs.declared.Kind.TheVariants.{Family, Number}
use Rattle.script_lines.specs.Orders.{panel_kinds}

abbrev pub one_panel : List Kind
one_panel = Family ∷ Number 255 ∷ Number 255 ∷ []

kinds_front : (n m : ℕ) → flat_map (λ (k : List Kind). k) (take n (replicate (n + m) one_panel)) ≡ panel_kinds n
unfolding panel_kinds
kinds_front zero m = refl
kinds_front (suc n) m =
    let more : suc n + m ≡ suc (n + m) = omega arith in
    rw more (ap (λ (l : List Kind). Family ∷ Number 255 ∷ Number 255 ∷ l) (kinds_front n m))

pub kinds_of : (n : ℕ) → n ≤ 16 → flat_map (λ (k : List Kind). k) (take n (replicate 16 one_panel)) ≡ panel_kinds n
kinds_of n h =
    let e : 16 ≡ n + (16 - n) = omega arith in
    ap (λ (m : ℕ). flat_map (λ (k : List Kind). k) (take n (replicate m one_panel))) e ∙ kinds_front n (16 - n)
