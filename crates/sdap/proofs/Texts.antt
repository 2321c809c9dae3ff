-- What stands before a text's first 00h is no longer than the text: each byte counted is a byte passed.
use Prim.Native.Nat.{ℕ, suc, ◌≤◌}
use mathlib.Core.Bool.{Bool, true, false, cond}
use mathlib.Core.List.{List, [], ◌∷◌}
use native.Mathlib.Omega.{arith}
use lib.Dec.{eqb, lit≤}
use lib.ListN.{length}
use Rattle.sdap.specs.Rules.{before_zero, text_length}

pub text_fits : (t : List ℕ) → text_length t ≤ length t
unfolding before_zero
text_fits [] = lit≤ tt
text_fits (x ∷ t) = go (eqb x 0) (text_fits t)
  where
    go : (b : Bool) → text_length t ≤ length t → length (cond b [] (x ∷ before_zero t)) ≤ suc (length t)
    go true h = omega arith
    go false h = omega arith
