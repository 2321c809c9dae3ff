-- Lines with `piece` and what they write, by computation. No panel is there, and the area has no room: each packet is answered 1.
use mathlib.Core.Path.{◌≡◌, refl}
use mathlib.Core.List.{List, [], ◌∷◌, ◌++◌}
use Prim.Native.Nat.{ℕ}
use Prim.Native.String.{String}
use Rattle.laws.specs.Bytes.{ascii}
use Rattle.laws.specs.Numbers.{number}
use Rattle.decimals.specs.Decimals.{is_digit, decimal, leads_zero, is_numeral, up_to, in_digits}
use Rattle.decimals.specs.Plain.{width_from, width, plain}
use Rattle.panels.specs.Records.{no_box}
use Rattle.receiver.specs.Stream.{agrees, noise, size_of, whole}
use Rattle.receiver.specs.Calls.{holding, held_in, handed, given}
use Rattle.receiver.specs.Pieces.{fed_by}
use Rattle.steps.specs.Step.{door, step}
use Rattle.steps.specs.Messages.{names}
use Rattle.panels.specs.Valid.{valid}
use Rattle.script_hex.specs.Hex.{is_hex_digit, hex_value, is_hex}
use Rattle.script_words.specs.Words.{words_in, number_at, bytes_in, bytes_at}
use Rattle.script_text.specs.Texts.{glyph, pairs, hex_text, number_text, bytes_text, spoiled_by, at_text, placed_text, reply_text}
use Rattle.script_answers.specs.Answers.{writes, replied}
use Rattle.script_messages.specs.Messages.{stepped}
use Rattle.script_receivers.specs.Receivers.{packeted, packets_text, LinkEffect, pieced, pieced_by}

-- what a line does, each definition opened
opened : String → LinkEffect
unfolding number words_in number_at up_to is_numeral leads_zero is_digit decimal bytes_at is_hex is_hex_digit bytes_in hex_value agrees noise size_of whole holding held_in handed given fed_by names valid door step glyph pairs hex_text number_text bytes_text spoiled_by at_text placed_text reply_text plain width width_from in_digits writes replied stepped packeted packets_text pieced pieced_by
opened s = pieced_by no_box (holding []) (ascii s)

-- the lines of a text
lines : List String → List ℕ
lines [] = []
lines (s ∷ l) = ascii s ++ (0x0a ∷ []) ++ lines l

-- a byte of noise is dropped, and the next can begin a packet
noisy : ((opened "piece 1 0 0703").text ≡ lines ("held 1" ∷ [])) × ((opened "piece 1 0 0703").receiver ≡ holding (0x03 ∷ []))
unfolding opened lines
noisy = (refl, refl)

-- two packets, and a byte of a third
two : (opened "piece 8 0 030b534f4e59000000b0000000030b534f4e59000000b000000141ff03").text
    ≡ lines ("packet 030B534F4E59000000B0000000" ∷ "answer 1 reply -" ∷ "packet 030B534F4E59000000B000000141" ∷ "answer 1 reply -" ∷ "held 1" ∷ [])
unfolding opened lines
two = refl

-- of a header with a length over 499 just its 13 bytes, and the search goes on
overlong : (opened "piece 1 0 030b534f4e59000000b00001f4030b534f4e59000000b0000000").text
    ≡ lines ("packet 030B534F4E59000000B00001F4" ∷ "answer 1 reply -" ∷ "packet 030B534F4E59000000B0000000" ∷ "answer 1 reply -" ∷ "held 0" ∷ [])
unfolding opened lines
overlong = refl
