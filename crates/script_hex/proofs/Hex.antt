-- A word that is not a lone `-` is HEX by its length and its digits.
use Prim.Native.Nat.{◌%◌, ℕ}
use mathlib.Core.Bool.{◌&&◌, false}
use mathlib.Core.List.{List}
use mathlib.Core.Path.{◌∙◌, ◌≡◌, ap, sym}
use lib.Dec.{eqb, leb}
use lib.ListN.{length}
use lib.Pointwise.{pointwise}
use Rattle.laws.specs.Bytes.{ascii, same}
use Rattle.laws.proofs.Library.{same_pointwise}
use Rattle.laws.specs.Lists.{every}
use Rattle.script_hex.specs.Hex.{is_hex, is_hex_digit}

pub no_dash : (w dash : List ℕ) → dash ≡ ascii "-" → false ≡ pointwise eqb w dash → is_hex w ≡ (leb 1 (length w) && leb (length w) 2048 && eqb (length w % 2) 0 && every is_hex_digit w)
unfolding is_hex
no_dash w dash e n =
    let h : same w (ascii "-") ≡ false = ap (same w) (sym e) ∙ sym (same_pointwise w dash) ∙ sym n in
    rw h
