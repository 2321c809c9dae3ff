-- `level_of` reads a number up to 100, so it fits a byte.
use mathlib.Core.Path.{◌≡◌, sym, subst, ◌∙◌}
use mathlib.Core.List.{List}
use Prim.Native.Nat.{ℕ, ◌≤◌}
use native.Mathlib.Omega.{arith}
use Rattle.std.specs.Prelude.{Some}
use Rattle.decimals.specs.Decimals.{up_to}
use Rattle.decimals.proofs.Numerals.{Most, up_to_most}
use Rattle.vmc_asks.proofs.level_of.Goals as goal

-- a number that was read is at most the most
small : (most : ℕ) (s : List ℕ) (v : ℕ) → up_to most s ≡ Some v → v ≤ most
small most s v e = subst (Most most) e (up_to_most most s)

pub overflow_cast-result : goal.overflow_cast-result
overflow_cast-result c = let h = small _ _ _ (sym c.plain_number.ensures ∙ c.in-Some.is) in omega arith
