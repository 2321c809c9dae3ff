-- Numbers, bytes and replies as they are written: all by computation.
use mathlib.Core.Path.{◌≡◌, refl}
use mathlib.Core.List.{[], ◌∷◌}
use lib.IntN.{pos, negsuc}
use lib.ListN.{replicate}
use Rattle.laws.specs.Bytes.{ascii}
use Rattle.decimals.specs.Decimals.{in_digits}
use Rattle.decimals.specs.Plain.{width_from, width, plain}
use Rattle.script_text.specs.Puts.{written, behind}
use Rattle.script_text.specs.Texts.{glyph, pairs, hex_text, number_text, bytes_text, signed_text, spoiled_by, at_text, placed_text, reply_text}

plain_0 : plain 0 ≡ ascii "0"
unfolding plain width width_from in_digits
plain_0 = refl

plain_9 : plain 9 ≡ ascii "9"
unfolding plain width width_from in_digits
plain_9 = refl

plain_10 : plain 10 ≡ ascii "10"
unfolding plain width width_from in_digits
plain_10 = refl

plain_greatest : plain 4294967295 ≡ ascii "4294967295"
unfolding plain width width_from in_digits
plain_greatest = refl

-- bytes: two digits each, in capitals, and `-` for none
none : hex_text [] ≡ ascii "-"
unfolding hex_text
none = refl

two_bytes : hex_text (10 ∷ 255 ∷ []) ≡ ascii "0AFF"
unfolding hex_text pairs glyph
two_bytes = refl

-- a bias
bias_below : signed_text (negsuc 1023) ≡ ascii "-1024"
unfolding signed_text number_text plain width width_from in_digits
bias_below = refl

bias_above : signed_text (pos 1023) ≡ ascii "1023"
unfolding signed_text plain width width_from in_digits
bias_above = refl

-- what goes back
reply : reply_text 0 0 (2 ∷ 0x5a ∷ []) (0xa5 ∷ 0xa5 ∷ []) ≡ ascii "answer 0 reply 025A"
unfolding reply_text placed_text at_text number_text bytes_text spoiled_by hex_text pairs glyph plain width width_from in_digits
reply = refl

spoiled : reply_text 12 11 [] (0xa5 ∷ 0xa4 ∷ []) ≡ ascii "answer 12 at 11 reply - spoiled"
unfolding reply_text placed_text at_text number_text bytes_text spoiled_by hex_text plain width width_from in_digits
spoiled = refl

-- an answer alone, with the greatest place and with none
placed : placed_text 14 65535 ≡ ascii "answer 14 at 65535"
unfolding placed_text at_text number_text plain width width_from in_digits
placed = refl

unplaced : placed_text 4 0 ≡ ascii "answer 4"
unfolding placed_text at_text number_text plain width width_from in_digits
unplaced = refl

-- text in an area, and text that the area's end cuts off
fits : written (replicate 6 0) 1 (ascii "abc") ≡ 0 ∷ 0x61 ∷ 0x62 ∷ 0x63 ∷ 0 ∷ 0 ∷ []
unfolding written
fits = refl

cut : written (replicate 3 0) 1 (ascii "abc") ≡ 0 ∷ 0x61 ∷ 0x62 ∷ []
unfolding written
cut = refl

cut_behind : behind (replicate 3 0) 1 (ascii "abc") ≡ 3
unfolding behind
cut_behind = refl

outside : behind (replicate 3 0) 5 (ascii "abc") ≡ 5
unfolding behind
outside = refl
