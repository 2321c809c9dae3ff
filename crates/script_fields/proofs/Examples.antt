-- An advert's line by computation.
use mathlib.Core.Path.{◌≡◌, refl}
use mathlib.Core.List.{[], ◌∷◌, ◌++◌}
use lib.ListN.{replicate}
use Rattle.laws.specs.Bytes.{ascii}
use Rattle.decimals.specs.Decimals.{in_digits}
use Rattle.decimals.specs.Plain.{width_from, width, plain}
use Rattle.script_text.specs.Texts.{glyph, pairs, hex_text, number_text, bytes_text}
use Rattle.sdap.specs.declared.Advert.{Advert}
use Rattle.script_fields.specs.Fields.{head_text, addresses_text, tail_text, advert_text}

-- a controller's advert, as the reader gives it
advert : Advert
advert = record {
  category = 12;
  product = ascii "DESK-7" ++ replicate 6 0;
  serial = 7;
  power = 1;
  location = ascii "Hall" ++ replicate 20 0;
  connected = 167772162;
  accepted = 167772161 ∷ 3232235521 ∷ 0 ∷ 4294967295 ∷ [];
  error = 1;
  region = replicate 24 0;
  name = replicate 24 0x51;
  group = record { 0 = 0 };
  unit = record { 0 = 255 };
}

advert_line : advert_text advert ≡ ascii "answer 0 category 12 product 4445534B2D37000000000000 serial 7 power 1 location 48616C6C0000000000000000000000000000000000000000 ip 167772162 accepted 167772161 3232235521 0 4294967295 error 1 region 000000000000000000000000000000000000000000000000 name 515151515151515151515151515151515151515151515151 group 0 unit 255"
unfolding advert advert_text head_text addresses_text tail_text bytes_text number_text hex_text pairs glyph plain width width_from in_digits
advert_line = refl
