-- The three stretches of an advert are 50, 20 and 52 bytes long, since each field is of its length; and each text that is read of 122 bytes is.
use Prim.Native.Nat.{ℕ}
use mathlib.Core.List.{List}
use mathlib.Core.Path.{◌≡◌}
use native.Mathlib.Omega.{arith}
use lib.ListN.{length, length-append}
use Rattle.laws.proofs.Lists.{part_length}
use Rattle.laws.proofs.Numbers.{length_in_bytes}
use Rattle.sdap.specs.declared.Advert.{Advert}
use Rattle.sdap.specs.Layout.{head_of, addresses_of, tail_of, fields_of}
use Rattle.sdap.specs.Rules.{Sized}

pub head_length : (a : Advert) → length a.product ≡ 12 → length a.location ≡ 24 → length (head_of a) ≡ 50
head_length a hp hl = simp (length-append, length_in_bytes) (omega arith)

pub addresses_length : (a : Advert) → length (addresses_of a) ≡ 20
addresses_length a = simp (length-append, length_in_bytes)

pub tail_length : (a : Advert) → length a.region ≡ 24 → length a.name ≡ 24 → length (tail_of a) ≡ 52
tail_length a hr hn = simp (length-append, length_in_bytes) (omega arith)

pub read_sized : (l : List ℕ) → length l ≡ 122 → Sized (fields_of l)
unfolding fields_of
read_sized l h = record {
  product_ok = part_length 8 12 l (omega arith);
  location_ok = part_length 26 24 l (omega arith);
  region_ok = part_length 72 24 l (omega arith);
  name_ok = part_length 96 24 l (omega arith);
}
