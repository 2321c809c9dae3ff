-- Lines and what they leave and write, by computation.
use mathlib.Core.Path.{◌≡◌, refl}
use mathlib.Core.List.{[], ◌∷◌, ◌++◌}
use Prim.Native.String.{String}
use lib.ListN.{replicate}
use Rattle.laws.specs.Bytes.{ascii}
use Rattle.decimals.specs.Decimals.{is_digit, decimal, leads_zero, is_numeral, up_to, in_digits}
use Rattle.decimals.specs.Plain.{width_from, width, plain}
use Rattle.sums.specs.Sums.{sum_of}
use Rattle.panels.specs.Records.{no_box}
use Rattle.configure.specs.Configure.{asked_at, asked, configured}
use Rattle.panels.specs.Valid.{zero_ids, ok_family, ok_panel, valid}
use Rattle.receiver.specs.Stream.{agrees, noise, size_of, whole}
use Rattle.receiver.specs.Calls.{holding, held_in, handed, given}
use Rattle.receiver.specs.Pieces.{fed_by}
use Rattle.reader.specs.Plain.{between, no_entries, plain as listed}
use Rattle.script_words.specs.Words.{words_in, number_at, bytes_in, bytes_at}
use Rattle.script_hex.specs.Hex.{is_hex_digit, hex_value, is_hex}
use Rattle.script_words.specs.Kinds.{is_family, is_link, is_kind, shaped}
use Rattle.script_lines.specs.Orders.{asks, panel_kinds, asks_box, order_in, is_passed_over, order_of}
use Rattle.script_boxes.specs.Boxes.{panels_in, configuration, configuration_of}
use Rattle.script_text.specs.Texts.{number_text}
use Rattle.script_answers.specs.Answers.{writes}
use Rattle.script_bytes.specs.Bytes.{summed}
use Rattle.script_listings.specs.Listings.{entries_text, end_text, plain_text}
use Rattle.script_panels.specs.Panels.{boxed, is_there, shown_at}
use Rattle.script_receivers.specs.Receivers.{packets_text, pieced, pieced_by}
use Rattle.script_orders.specs.Orders.{ordered}
use Rattle.script.specs.Answers.{LineEffect, at_start, on_box, on_link, carried_out, answered}
use Rattle.script.specs.declared.Held.{Held}

-- what a line does first in a script, each definition opened
opened : String → LineEffect
unfolding answered carried_out at_start on_box on_link ordered order_of is_passed_over asks_box panels_in panel_kinds words_in asks order_in shaped is_kind is_family is_link is_hex is_hex_digit is_numeral leads_zero up_to is_digit decimal number_at bytes_at bytes_in hex_value writes summed sum_of shown_at is_there boxed configuration_of configuration configured asked asked_at valid ok_panel ok_family zero_ids number_text plain width width_from in_digits pieced_by pieced packets_text fed_by given handed holding held_in agrees noise size_of whole plain_text entries_text end_text listed between no_entries
opened s = answered at_start (ascii s)

passed : opened "# a remark" ≡ record { held = at_start; text = [] }
unfolding opened
passed = refl

no_order : opened "sum 0 " ≡ record { held = at_start; text = ascii "unread" ++ (0x0a ∷ []) }
unfolding opened
no_order = refl

a_sum : (opened "sum 01fF").text ≡ ascii "yes" ++ (0x0a ∷ [])
unfolding opened
a_sum = refl

-- a tail of one byte, behind a byte of noise
a_list : (opened "plain 0703").text ≡ ascii "plain end 1" ++ (0x0a ∷ [])
unfolding opened
a_list = refl

nothing_there : (opened "show 1").text ≡ ascii "none" ++ (0x0a ∷ [])
unfolding opened
nothing_there = refl

bad_box : opened "box K 0 1" ≡ record { held = at_start; text = ascii "box 7" ++ (0x0a ∷ []) }
unfolding opened
bad_box = refl

-- the receiver of link 2 keeps a byte, the others stay empty
abbrev second_keeps : Held
second_keeps = record { made = no_box; receivers = holding [] ∷ holding (0x03 ∷ []) ∷ replicate 6 (holding []) }

a_piece : opened "piece 2 0 0703" ≡ record { held = second_keeps; text = ascii "held 1" ++ (0x0a ∷ []) }
unfolding opened
a_piece = refl

no_receiver : (opened "piece 0 0 03" ≡ opened "unread") × (opened "piece 9 0 03" ≡ opened "unread")
unfolding opened
no_receiver = (refl, refl)

-- `box` leaves the receivers
box_leaves : (answered second_keeps (ascii "box K 0 1")).held ≡ second_keeps
unfolding opened
box_leaves = refl
