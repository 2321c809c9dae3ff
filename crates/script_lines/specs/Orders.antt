-- docs/SCRIPTS.md, "Lines" and "Orders": which order a line is.
use Rattle.std.specs.Prelude.{ℕ, zero, suc, Bool, cond, ◌&&◌, ◌||◌, List, [], ◌∷◌, eqb, leb, ltb, length, get_or, drop}
use Prim.Native.String.{String}
use Rattle.laws.specs.Bytes.{ascii, same}
use Rattle.script_words.specs.Words.{words_in, word_at}
use Rattle.script_lines.specs.declared.Row as code
use Rattle.script_lines.specs.declared.Order.{Order}
use Rattle.script_lines.specs.declared.Order.TheVariants.{OnBox, Piece}
use Rattle.script_lines.specs.declared.BoxOrder.TheVariants.{Passed, Unread, Box, Rs232, Kjw, Tcp, Udp, Show, Advert, Write, Sum, Plain}
use Rattle.script_words.specs.Kinds.{most_n, most_area, shaped}
use Rattle.script_words.specs.declared.Kind.{Kind}
use Rattle.script_words.specs.declared.Kind.TheVariants.{Hex, Family, Link, Number}
use Rattle.script_boxes.specs.Boxes.{panels_in}

-- the order's word, and behind it a word of each kind
unfoldable pub asks : List ℕ → List Kind → List ℕ → Bool
asks name kinds line = same (word_at 0 line) name && shaped kinds (drop 1 (words_in line))

-- ---- `box`: "for each panel its family (W or K), group and unit (0 to 255); 0 to 16 panels may be written"

unfoldable pub panel_kinds : ℕ → List Kind
panel_kinds zero = []
panel_kinds (suc n) = Family ∷ Number 255 ∷ Number 255 ∷ panel_kinds n

unfoldable pub asks_box : List ℕ → Bool
asks_box line = leb (panels_in line) 16 && asks (ascii "box") (panel_kinds (panels_in line)) line

-- ---- the other orders

pub record Row : Type 0 where
  pub word : List ℕ
  pub kinds : List Kind
  pub order : Order

abbrev pub row : String → List Kind → Order → Row
row word kinds order = record { word = ascii word; kinds = kinds; order = order }

-- "LINK is any N"
abbrev pub any_n : Kind
any_n = Number most_n

-- "AREA bytes (0 to 1,024)"
abbrev pub an_area : Kind
an_area = Number most_area

-- "LINK AREA HEX"
abbrev pub message_kinds : List Kind
message_kinds = any_n ∷ an_area ∷ Hex ∷ []

-- "AREA CATEGORY PRODUCT SERIAL POWER LOCATION IP IP1 IP2 IP3 IP4 ERROR REGION NAME GROUP UNIT [..] the four texts are HEX, the
-- rest N (CATEGORY, GROUP, UNIT to 255, POWER, ERROR to 65535)"
abbrev pub write_kinds : List Kind
write_kinds =
    an_area ∷ Number 255 ∷ Hex ∷ any_n ∷ Number 65535 ∷ Hex ∷ any_n ∷
    any_n ∷ any_n ∷ any_n ∷ any_n ∷ Number 65535 ∷ Hex ∷ Hex ∷ Number 255 ∷ Number 255 ∷ []

abbrev pub order_rows : List Row
order_rows =
    row "rs232" message_kinds (OnBox Rs232) ∷
    row "kjw" message_kinds (OnBox Kjw) ∷
    row "tcp" message_kinds (OnBox Tcp) ∷
    row "udp" (Hex ∷ []) (OnBox Udp) ∷
    row "show" (any_n ∷ []) (OnBox Show) ∷
    row "advert" (Hex ∷ []) (OnBox Advert) ∷
    row "write" write_kinds (OnBox Write) ∷
    row "sum" (Hex ∷ []) (OnBox Sum) ∷
    row "piece" (Link ∷ an_area ∷ Hex ∷ []) Piece ∷
    row "plain" (Hex ∷ []) (OnBox Plain) ∷ []

-- a row as the code holds it: its word and its kinds are lent
abbrev pub lent : code.Row → Row
lent r = record { word = r.word.now; kinds = r.kinds.now; order = r.order }

-- "Any other line is answered `unread`"
unfoldable pub order_in : List Row → List ℕ → Order
order_in [] line = OnBox Unread
order_in (r ∷ rs) line = cond (asks r.word r.kinds line) r.order (order_in rs line)

-- "An empty line, and a line that begins with `#` (however long), is passed over and writes nothing."
unfoldable pub is_passed_over : List ℕ → Bool
is_passed_over line = eqb (length line) 0 || eqb (get_or line 0 0) 0x23

-- "A line holds at most 4,096 bytes before its end."
unfoldable pub order_of : List ℕ → Order
order_of line =
    cond (is_passed_over line) (OnBox Passed)
    (cond (ltb 4096 (length line)) (OnBox Unread)
    (cond (asks_box line) (OnBox Box)
    (order_in order_rows line)))
