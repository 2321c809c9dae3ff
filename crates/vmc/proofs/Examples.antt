-- The bench's VMC words, words that nearly are some, and one of each kind that is understood, by computation.
use Prim.Native.Nat.{ℕ, zero, suc}
use mathlib.Core.Path.{◌≡◌, refl}
use mathlib.Core.Bool.{Bool, true, false, cond}
use mathlib.Core.List.{List, [], ◌∷◌, ◌++◌, map}
use lib.IntN.{pos, negsuc}
use lib.ListN.{get_or, set, replicate}
use Rattle.std.specs.Prelude.{Option, Some, None}
use Rattle.laws.specs.Bytes.{ascii}
use Rattle.laws.specs.Lists.{every}
use Rattle.decimals.specs.Decimals.{is_digit, decimal, leads_zero, is_numeral, up_to, in_digits, numeral}
use Rattle.panels.specs.Records.{start_w}
use Rattle.panels.specs.declared.WRecord.{WRecord}
use Rattle.settings.specs.Table.{flip_place}
use Rattle.setting_words.specs.Names.{named_by, led_by, chosen_by}
use Rattle.vmc.specs.Orders.{with_settings, carried, says_of}
use Rattle.trimming.specs.Trimming.{unterminated, unspaced, trimmed}
use Rattle.vmc_asks.specs.Asks.{shift_order, value_order, read_set, read_get, read_words, read_data}
use Rattle.vmc_tells.specs.Texts.{value_words, shift_words, set_words, move_words, text_of}
use Rattle.vmc_asks.specs.declared.Order.{Order}
use Rattle.vmc_asks.specs.declared.Order.TheVariants.{Set, Shift, Reset, Get}
use Rattle.vmc_tells.specs.declared.Says.TheVariants.{Value, Offset}
use Rattle.vmc.proofs.AskedBack.{touches}

-- the record after some words, and the words that then go back; words that are not understood do neither
after : Option Order → WRecord → WRecord
after (Some o) w = carried o w
after None w = w

reply : Option Order → WRecord → List ℕ
reply (Some o) w = text_of (says_of o w)
reply None w = []

-- * `STATset VOLUME 40`, "Then `STATget VOLUME`: length 9, `VOLUME 40`"
bench_volume : reply (read_data (ascii "STATget VOLUME")) (after (read_data (ascii "STATset VOLUME 40")) start_w) ≡ ascii "VOLUME 40"
unfolding after reply read_data read_words trimmed unspaced unterminated read_set read_get value_order up_to is_numeral leads_zero is_digit decimal in_digits numeral led_by named_by carried says_of text_of set_words value_words
bench_volume = refl

-- "as `VOLUME 40`, `MODE2`, `CAMERA FOCUS OFF`, `SHIFTH +5`, `SHIFTH 0`"
texts : map text_of (Value 2 40 ∷ Value 3 2 ∷ Value 14 0 ∷ Offset 21 (pos 5) ∷ Offset 21 (pos 0) ∷ []) ≡ ascii "VOLUME 40" ∷ ascii "MODE2" ∷ ascii "CAMERA FOCUS OFF" ∷ ascii "SHIFTH +5" ∷ ascii "SHIFTH 0" ∷ []
unfolding text_of set_words value_words move_words shift_words in_digits numeral
texts = refl

-- Document 02, §4: the flip after ON and OFF for each word, from none, H, V and HV
flipped : ℕ → WRecord
flipped flip = with_settings start_w (set start_w.settings flip_place flip)

flip_after : List ℕ → ℕ → ℕ
flip_after d flip = get_or (after (read_data d) (flipped flip)).settings flip_place 0

from_each : List ℕ → List ℕ
from_each d = map (flip_after d) (0 ∷ 1 ∷ 2 ∷ 3 ∷ [])

flips_after : map from_each (ascii "STATset FLIPH ON" ∷ ascii "STATset FLIPH OFF" ∷ ascii "STATset FLIPV ON" ∷ ascii "STATset FLIPV OFF" ∷ ascii "STATset FLIPHV ON" ∷ ascii "STATset FLIPHV OFF" ∷ []) ≡
    (1 ∷ 1 ∷ 1 ∷ 1 ∷ []) ∷
    (0 ∷ 0 ∷ 2 ∷ 3 ∷ []) ∷
    (2 ∷ 2 ∷ 2 ∷ 2 ∷ []) ∷
    (0 ∷ 1 ∷ 0 ∷ 3 ∷ []) ∷
    (3 ∷ 3 ∷ 3 ∷ 3 ∷ []) ∷
    (0 ∷ 1 ∷ 2 ∷ 0 ∷ []) ∷ []
unfolding after flipped flip_after from_each read_data read_words trimmed unspaced unterminated read_set value_order led_by chosen_by carried
flips_after = refl

-- and what the three words say under each
flip_told : ℕ → List (List ℕ)
flip_told flip = map (λ (name : List ℕ). reply (read_data (ascii "STATget " ++ name)) (flipped flip)) (ascii "FLIPH" ∷ ascii "FLIPV" ∷ ascii "FLIPHV" ∷ [])

flips_told : map flip_told (0 ∷ 1 ∷ 2 ∷ 3 ∷ []) ≡
    (ascii "FLIPH OFF" ∷ ascii "FLIPV OFF" ∷ ascii "FLIPHV OFF" ∷ []) ∷
    (ascii "FLIPH ON" ∷ ascii "FLIPV OFF" ∷ ascii "FLIPHV OFF" ∷ []) ∷
    (ascii "FLIPH OFF" ∷ ascii "FLIPV ON" ∷ ascii "FLIPHV OFF" ∷ []) ∷
    (ascii "FLIPH OFF" ∷ ascii "FLIPV OFF" ∷ ascii "FLIPHV ON" ∷ []) ∷ []
unfolding reply flipped flip_told read_data read_words trimmed unspaced unterminated read_get named_by says_of text_of set_words value_words
flips_told = refl

-- what is understood: "VOLUME 100 is set", "SHIFTH -30 is set", and one of each kind
taken : List (List ℕ)
taken =
    ascii "STATset VOLUME 100" ∷
    ascii "STATset SHIFTH -30" ∷
    ascii "STATset SHIFTV +5" ∷
    ascii "STATset SHIFTV 5" ∷
    ascii "STATset SHIFTV 0" ∷
    ascii "STATset MODE2" ∷
    ascii "STATset NTSC75" ∷
    ascii "STATset RGB RANGE LIMITED" ∷
    ascii "STATset CAMERA FOCUS ON" ∷
    ascii "STATset FLIPHV ON" ∷
    ascii "STATset RESET" ∷
    ascii "STATget RGB RANGE" ∷
    ascii "STATget FLIPH" ∷
    ascii "STATget SHIFTV" ∷ []

taken_as : map read_data taken ≡
    Some (Set 2 100) ∷
    Some (Shift 0 (negsuc 29)) ∷
    Some (Shift 1 (pos 5)) ∷
    Some (Shift 1 (pos 5)) ∷
    Some (Shift 1 (pos 0)) ∷
    Some (Set 3 2) ∷
    Some (Set 4 1) ∷
    Some (Set 5 1) ∷
    Some (Set 14 1) ∷
    Some (Set 20 1) ∷
    Some Reset ∷
    Some (Get 5) ∷
    Some (Get 18) ∷
    Some (Get 22) ∷ []
unfolding taken read_data read_words trimmed unspaced unterminated read_set read_get value_order up_to is_numeral leads_zero is_digit decimal led_by named_by chosen_by shift_order
taken_as = refl

-- Document 02, §2, "one final 00h is taken off if there, then all spaces at the end": the ends that are good
ends : List (List ℕ)
ends = [] ∷ (0x20 ∷ []) ∷ (0x20 ∷ 0x20 ∷ []) ∷ (0x00 ∷ []) ∷ (0x20 ∷ 0x00 ∷ []) ∷ (0x20 ∷ 0x20 ∷ 0x00 ∷ []) ∷ []

ended : List ℕ → List (Option Order)
ended words = map (λ (e : List ℕ). read_data (words ++ e)) ends

-- each order with each of these ends
ended_as : map ended (ascii "STATset VOLUME 40" ∷ ascii "STATset RESET" ∷ ascii "STATget VOLUME" ∷ ascii "STATget RGB RANGE" ∷ []) ≡
    map (λ (w : Option Order). replicate 6 w) (Some (Set 2 40) ∷ Some Reset ∷ Some (Get 2) ∷ Some (Get 5) ∷ [])
unfolding ends ended read_data read_words trimmed unspaced unterminated read_set read_get value_order up_to is_numeral leads_zero is_digit decimal led_by named_by
ended_as = refl

-- "101: 6", "-31 and -0: 6"; other signs, leading zeros, twenty digits (2 ^ 64 and 40)
numbers_off : List (List ℕ)
numbers_off =
    ascii "STATset VOLUME 101" ∷
    ascii "STATset SHIFTH -31" ∷
    ascii "STATset SHIFTH -0" ∷
    ascii "STATset SHIFTH +0" ∷
    ascii "STATset SHIFTH 05" ∷
    ascii "STATset SHIFTH +31" ∷
    ascii "STATset SHIFTH 31" ∷
    ascii "STATset SHIFTH +-5" ∷
    ascii "STATset SHIFTH +" ∷
    ascii "STATset SHIFTH" ∷
    ascii "STATset VOLUME 040" ∷
    ascii "STATset VOLUME 00" ∷
    ascii "STATset VOLUME +40" ∷
    ascii "STATset VOLUME 4O" ∷
    ascii "STATset VOLUME " ∷
    ascii "STATset VOLUME" ∷
    ascii "STATset VOLUME 18446744073709551656" ∷ []

-- "Words are capitals-sensitive with one space between"
spacing_off : List (List ℕ)
spacing_off =
    ascii "statset VOLUME 40" ∷
    ascii "STATSET VOLUME 40" ∷
    ascii "STATset volume 40" ∷
    ascii "STATset REMOTE on" ∷
    ascii "STATset  VOLUME 40" ∷
    ascii "STATset VOLUME  40" ∷
    ascii "STATset CAMERA  FOCUS ON" ∷
    ascii " STATset VOLUME 40" ∷
    (ascii "STATset" ++ (0x09 ∷ ascii "VOLUME 40")) ∷
    (ascii "STATset VOLUME" ++ (0x09 ∷ ascii "40")) ∷ []

-- "Any other data is 6."
words_off : List (List ℕ)
words_off =
    ascii "STATset" ∷
    ascii "STATget" ∷
    ascii "VOLUME 40" ∷
    ascii "STATset VOLUME 40 41" ∷
    ascii "STATset MODE3" ∷
    ascii "STATset MODE 0" ∷
    ascii "STATset MODE" ∷
    ascii "STATset NTSC 0" ∷
    ascii "STATset NTSC750" ∷
    ascii "STATset RGB RANGE" ∷
    ascii "STATset RGB RANGE LIMITEDX" ∷
    ascii "STATset FLIP ON" ∷
    ascii "STATset FLIPHON" ∷
    ascii "STATset REMOTE" ∷
    ascii "STATget RESET" ∷
    ascii "STATget VOLUME 40" ∷
    ascii "STATget MODE0" ∷
    ascii "STATget RGB" ∷
    ascii "STATget CAMERA" ∷
    ascii "STATget FLIPHVX" ∷ []

-- Document 02, §2: another end, or one before the words or within them
ends_off : List (List ℕ)
ends_off =
    (ascii "STATset VOLUME 40" ++ (0x00 ∷ 0x20 ∷ [])) ∷
    (ascii "STATset VOLUME 40" ++ (0x00 ∷ 0x00 ∷ [])) ∷
    (ascii "STATset VOLUME 40" ++ (0x20 ∷ 0x00 ∷ 0x20 ∷ [])) ∷
    (ascii "STATset VOLUME 40" ++ (0x09 ∷ [])) ∷
    (ascii "STATset VOLUME 40" ++ (0x20 ∷ 0x09 ∷ [])) ∷
    (ascii "STATset VOLUME 40" ++ (0x01 ∷ [])) ∷
    (ascii "STATset VOLUME 40" ++ (0x0d ∷ [])) ∷
    (0x00 ∷ ascii "STATset VOLUME 40") ∷
    (ascii "STATset VOLUME" ++ (0x00 ∷ ascii " 40")) ∷ []

-- "Data of spaces alone, or of none, is not understood."
nothing_left : List (List ℕ)
nothing_left =
    [] ∷
    ascii " " ∷
    ascii "  " ∷
    (0x00 ∷ []) ∷
    (0x20 ∷ 0x00 ∷ []) ∷
    (0x00 ∷ 0x00 ∷ []) ∷
    ascii "STATset " ∷
    (ascii "STATset" ++ (0x00 ∷ [])) ∷
    ascii "STATget " ∷
    (ascii "STATget " ++ (0x00 ∷ [])) ∷ []

is_strange : Option Order → Bool
is_strange (Some o) = false
is_strange None = true

strange : List ℕ → Bool
strange d = is_strange (read_data d)

-- none of these is understood
none_taken : every strange (numbers_off ++ spacing_off ++ words_off ++ ends_off ++ nothing_left) ≡ true
unfolding numbers_off spacing_off words_off ends_off nothing_left is_strange strange read_data read_words trimmed unspaced unterminated read_set read_get value_order up_to is_numeral leads_zero is_digit decimal led_by named_by chosen_by shift_order
none_taken = refl

-- ---- what a VMC order sets, of the 23 names: its own; ON for a flip word all three, and OFF its own; RESET both shifts; a question none

abbrev touched_in : ℕ → Order → List ℕ
touched_in zero o = []
touched_in (suc n) o = touched_in n o ++ cond (touches o n) (n ∷ []) []

touched : map (touched_in 23) (Set 2 40 ∷ Set 3 2 ∷ Set 18 1 ∷ Set 18 0 ∷ Set 19 1 ∷ Set 20 0 ∷ Shift 0 (pos 5) ∷ Shift 1 (pos 0) ∷ Reset ∷ Get 2 ∷ Get 18 ∷ Get 21 ∷ []) ≡
    (2 ∷ []) ∷ (3 ∷ []) ∷ (18 ∷ 19 ∷ 20 ∷ []) ∷ (18 ∷ []) ∷ (18 ∷ 19 ∷ 20 ∷ []) ∷ (20 ∷ []) ∷ (21 ∷ []) ∷ (22 ∷ []) ∷ (21 ∷ 22 ∷ []) ∷ [] ∷ [] ∷ [] ∷ []
touched = refl
