-- The rows of orders: one that is asked is the order, and one that is not leaves it to those behind it.
use Prim.Native.Nat.{◌+◌, ◌<◌, ◌≤◌, ℕ}
use mathlib.Core.Bool.{false, true}
use mathlib.Core.List.{List, ◌∷◌, map}
use mathlib.Core.Path.{◌∙◌, ◌≡◌, ap}
use lib.ListN.{drop, get_or, get_or-map, length}
use Rattle.std.proofs.lemmas.List.{length-map}
use native.Mathlib.Omega.{arith}
use Rattle.laws.proofs.Lists.{behind, from}
use Rattle.script_lines.specs.Orders.{Row, asks, lent, order_in}
use Rattle.script_lines.specs.declared.Row as code
use Rattle.script_lines.specs.declared.Order.TheVariants.{OnBox}
use Rattle.script_lines.specs.declared.BoxOrder.TheVariants.{Unread}

module _ (rows : List code.Row) (none : code.Row) (line : List ℕ) (i : ℕ) (h : i < length rows) where
  from_row : order_in (drop i (map lent rows)) line ≡ order_in (lent (get_or rows i none) ∷ drop (i + 1) (map lent rows)) line
  from_row =
      let size = length-map rows lent in
      ap (λ (rs : List Row). order_in rs line) (from (map lent rows) i (lent none) (omega arith))
      ∙ ap (λ (r : Row). order_in (r ∷ drop (i + 1) (map lent rows)) line) (get_or-map lent rows i none)

  pub asked : asks (get_or rows i none).word.now (get_or rows i none).kinds.now line ≡ true → order_in (drop i (map lent rows)) line ≡ (get_or rows i none).order
  unfolding order_in
  asked e = from_row ∙ rw e

  pub not_asked : asks (get_or rows i none).word.now (get_or rows i none).kinds.now line ≡ false → order_in (drop i (map lent rows)) line ≡ order_in (drop (i + 1) (map lent rows)) line
  unfolding order_in
  not_asked e = from_row ∙ rw e

-- behind the last no row is left
pub none_asked : (rows : List code.Row) (line : List ℕ) (i : ℕ) → length rows ≤ i → order_in (drop i (map lent rows)) line ≡ OnBox Unread
unfolding order_in
none_asked rows line i h = let size = length-map rows lent in ap (λ (rs : List Row). order_in rs line) (behind (map lent rows) i (omega arith))
