-- Lines of a script, each read by computing the definitions.
use mathlib.Core.Path.{◌≡◌, refl}
use mathlib.Core.List.{List, [], ◌∷◌, ◌++◌, map}
use Prim.Native.String.{String}
use lib.ListN.{replicate}
use Rattle.laws.specs.Bytes.{ascii}
use Rattle.decimals.specs.Decimals.{is_digit, decimal, leads_zero, is_numeral, up_to}
use Rattle.script_words.specs.Words.{words_in, bytes_in, bytes_at, number_at}
use Rattle.script_hex.specs.Hex.{is_hex_digit, hex_value, is_hex}
use Rattle.script_words.specs.Kinds.{is_family, is_link, is_kind, shaped}
use Rattle.script_lines.specs.Orders.{asks, panel_kinds, asks_box, order_in, is_passed_over, order_of}
use Rattle.script_boxes.specs.Boxes.{panels_in, configuration, configuration_of}
use Rattle.script_lines.specs.declared.Order.{Order}
use Rattle.script_lines.specs.declared.Order.TheVariants.{OnBox, Piece}
use Rattle.script_lines.specs.declared.BoxOrder.TheVariants.{Passed, Unread, Box, Rs232, Kjw, Tcp, Udp, Show, Advert, Write, Sum, Plain}

-- what the lines of a text are, one after the other
orders : List String → List Order
orders [] = []
orders (s ∷ l) = order_of (ascii s) ∷ orders l

-- orders
read : List String
read =
    "box" ∷ "box W 1 1 K 0 0" ∷
    "rs232 1 0 -" ∷ "kjw 4294967295 1024 00" ∷ "tcp 1 512 0aFF" ∷ "udp -" ∷
    "show 0" ∷ "advert 44" ∷ "sum 8c00" ∷
    "write 122 11 4c4d 3106846 0 - 0 0 0 0 0 0 - - 1 1" ∷
    "piece 1 512 00" ∷ "piece 8 0 -" ∷
    "plain -" ∷ "plain 030b" ∷ []

taken : orders read ≡ map OnBox (Box ∷ Box ∷ Rs232 ∷ Kjw ∷ Tcp ∷ Udp ∷ Show ∷ Advert ∷ Sum ∷ Write ∷ []) ++ (Piece ∷ Piece ∷ OnBox Plain ∷ OnBox Plain ∷ [])
unfolding read orders order_of is_passed_over asks_box asks panels_in panel_kinds words_in shaped is_kind is_family is_link is_hex is_hex_digit is_digit up_to is_numeral leads_zero decimal order_in
taken = refl

-- no orders: a space too many, too few words, too many, a leading zero, a number too large, an odd number of digits, capitals, a tab,
-- a link that has no receiver
unread : List String
unread =
    "box " ∷ " box" ∷ "box W 01 1" ∷ "box W 1 256" ∷ "box W 1" ∷ "box M 1 1" ∷
    "udp" ∷ "udp  00" ∷ "udp 00 " ∷ "udp 0" ∷ "udp 0g" ∷ "udp 00 00" ∷ "UDP 00" ∷ "udp\t00" ∷
    "show 4294967296" ∷ "show -1" ∷ "tcp 1 1025 00" ∷
    "piece 0 512 00" ∷ "piece 9 512 00" ∷ "piece 01 512 00" ∷ "piece 1 1025 00" ∷
    "plain" ∷ "plain 0" ∷ "plain 00 00" ∷ []

refused : orders unread ≡ replicate 24 (OnBox Unread)
unfolding unread orders order_of is_passed_over asks_box asks panels_in panel_kinds words_in shaped is_kind is_family is_link is_hex is_hex_digit is_digit up_to is_numeral leads_zero decimal order_in
refused = refl

-- nothing to do
passed_over : orders ("" ∷ "#" ∷ "#x" ∷ "# box W 1 1" ∷ []) ≡ replicate 4 (OnBox Passed)
unfolding orders order_of is_passed_over
passed_over = refl

-- what words write
bytes : bytes_at 3 (ascii "tcp 1 512 0aFF") ≡ 10 ∷ 255 ∷ []
unfolding words_in bytes_at is_hex is_hex_digit is_digit bytes_in hex_value
bytes = refl

no_bytes : bytes_at 1 (ascii "udp -") ≡ []
unfolding words_in bytes_at is_hex is_hex_digit is_digit bytes_in hex_value
no_bytes = refl

area_of_lem : number_at 1024 2 (ascii "tcp 1 512 0aFF") ≡ 512
unfolding words_in number_at up_to is_numeral leads_zero is_digit decimal
area_of_lem = refl

two_panels : configuration_of (ascii "box W 1 2 K 0 0") ≡ 0x57 ∷ 1 ∷ 2 ∷ 0x4b ∷ 0 ∷ 0 ∷ []
unfolding configuration_of configuration panels_in words_in number_at up_to is_numeral leads_zero is_digit decimal
two_panels = refl
