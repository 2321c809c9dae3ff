-- Document 000's example, read and written back, and each kind of refusal: all by computation.
use Prim.Native.Nat.{ℕ}
use mathlib.Core.Path.{◌≡◌, refl}
use mathlib.Core.List.{List, [], ◌∷◌, ◌++◌}
use lib.ListN.{replicate, set, take}
use Rattle.laws.specs.Bytes.{ascii}
use Rattle.laws.specs.Numbers.{number, in_bytes}
use Rattle.terms.specs.declared.Answer.TheVariants.{Done, AreaTooSmall, WrongLength, NotForUs, EnvelopeWrong}
use Rattle.sdap.specs.declared.Advert.{Advert}
use Rattle.sdap.specs.Layout.{bytes_of, fields_of, no_fields}
use Rattle.sdap.specs.Rules.{is_text, are_texts, is_category, is_filled, is_front, is_sized, verdict, read_answer, read_of, write_answer, area_after, before_zero}

-- document 000, "Example"
example : List ℕ
example =
    0x44 ∷ 0x41 ∷ 0x04 ∷ 0x0b ∷ 0x53 ∷ 0x4f ∷ 0x4e ∷ 0x59 ∷ 0x4c ∷ 0x4d ∷ 0x44 ∷ 0x33 ∷ 0x32 ∷ 0x35 ∷ 0x30 ∷ 0x4d
    ∷ 0x44 ∷ 0x00 ∷ 0x00 ∷ 0x00 ∷ 0x00 ∷ 0x2f ∷ 0x68 ∷ 0x1e ∷ (replicate 96 0 ++ (0x01 ∷ 0x01 ∷ []))

advert : Advert
advert = record {
  category = 11;
  product = ascii "LMD3250MD" ++ replicate 3 0;
  serial = 3106846;
  power = 0;
  location = replicate 24 0;
  connected = 0;
  accepted = replicate 4 0;
  error = 0;
  region = replicate 24 0;
  name = replicate 24 0;
  group = record { 0 = 1 };
  unit = record { 0 = 1 };
}

example_reads : read_of example ≡ record { answer = Done; fields = advert }
unfolding example advert read_of read_answer is_front verdict is_category is_filled are_texts is_text fields_of number
example_reads = refl

example_writes : bytes_of advert ≡ example
unfolding example advert bytes_of in_bytes
example_writes = refl

example_product : before_zero advert.product ≡ ascii "LMD3250MD"
unfolding advert before_zero
example_product = refl

-- one byte more or less: 3
short_refused : read_answer (take 121 example) ≡ WrongLength
unfolding example read_answer
short_refused = refl

long_refused : read_of (example ++ (0 ∷ [])) ≡ record { answer = WrongLength; fields = no_fields }
unfolding example read_of read_answer
long_refused = refl

-- the version: 4; the category: 4; the power: 5; a byte behind the product's end: 5
version_refused : read_answer (set example 2 5) ≡ NotForUs
unfolding example read_answer is_front
version_refused = refl

category_refused : read_answer (set example 3 10) ≡ NotForUs
unfolding example read_answer is_front verdict is_category fields_of
category_refused = refl

power_refused : read_answer (set example 24 1) ≡ EnvelopeWrong
unfolding example read_answer is_front verdict is_category is_filled are_texts is_text fields_of number
power_refused = refl

text_refused : read_answer (set example 19 0x21) ≡ EnvelopeWrong
unfolding example read_answer is_front verdict is_category is_filled are_texts is_text fields_of number
text_refused = refl

-- a small area wins over everything, and a refused writer leaves its area
small_refused : write_answer 121 advert ≡ AreaTooSmall
unfolding advert write_answer
small_refused = refl

written_in_124 : area_after (write_answer 124 advert) advert (replicate 124 0xa5) ≡ example ++ (0xa5 ∷ 0xa5 ∷ [])
unfolding advert example write_answer is_sized verdict is_category is_filled are_texts is_text bytes_of in_bytes
written_in_124 = refl
