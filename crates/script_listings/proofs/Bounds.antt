-- No number that the plain reader lists is above the buffer's length: each entry ends at or before the end of the list, which is in the
-- buffer.
use Prim.Native.Nat.{ℕ, ◌≤◌}
use mathlib.Core.List.{List}
use native.Mathlib.Omega.{arith}
use lib.ListN.{length}
use Rattle.reader.specs.Plain.{plain}
use Rattle.reader.proofs.Listed.{listed_few, listed_before, ends_in}
use Rattle.script_listings.specs.Bounds.{Within}

pub listed_within : (b : List ℕ) (most : ℕ) → length b ≤ most → Within most (plain b)
listed_within b most h =
    let e = ends_in b in
    record {
      few = listed_few b;
      entries = λ i k. (omega (arith, e, listed_before b i k), omega (arith, e, listed_before b i k));
      end = omega (arith, e);
    }
