-- docs/SCRIPTS.md: what a script holds, and what a line does to it and writes.
use Rattle.std.specs.Prelude.{ℕ, ◌-◌, ◌≡◌, List, [], get_or, set, replicate}
use Rattle.panels.specs.Records.{no_box}
use Rattle.receiver.specs.declared.Receiver.{Receiver}
use Rattle.receiver.specs.Calls.{holding}
use Rattle.script_words.specs.Words.{number_at}
use Rattle.script_words.specs.Kinds.{most_link}
use Rattle.script_lines.specs.Orders.{order_of}
use Rattle.script_lines.specs.declared.Order.{Order}
use Rattle.script_lines.specs.declared.Order.TheVariants.{OnBox, Piece}
use Rattle.script_text.specs.Puts.{Puts}
use Rattle.script_answers.specs.Answers.{Effect}
use Rattle.script_receivers.specs.Receivers.{LinkEffect, pieced_by}
use Rattle.script_orders.specs.Orders.{ordered}
use Rattle.script.specs.declared.Held.{Held}
use Rattle.script_answers.specs.declared.Answered.{Answered}

-- "A script starts with a box of no panels, and with empty receivers."
unfoldable pub at_start : Held
at_start = record { made = no_box; receivers = replicate most_link (holding []) }

-- what is held after a line, and the text that the line writes
pub record LineEffect : Type 0 where
  pub held : Held
  pub text : List ℕ

-- an order on the box, as `box`, "leaves the receivers alone"
unfoldable pub on_box : Held → Effect → LineEffect
on_box s o = record { held = record { made = o.box; receivers = s.receivers }; text = o.text }

-- "the receiver of TCP link LINK (1 to 8)": link less 1 is its place
abbrev pub link_place : List ℕ → ℕ
link_place line = number_at most_link 1 line - 1

abbrev pub receiver_at : ℕ → Held → Receiver
receiver_at i s = get_or s.receivers i (record { held = 0; store = [] })

-- a piece goes to that receiver alone
unfoldable pub on_link : ℕ → Held → LinkEffect → LineEffect
on_link i s o = record { held = record { made = o.box; receivers = set s.receivers i o.receiver }; text = o.text }

-- what each order does and writes
unfoldable pub carried_out : Order → Held → List ℕ → LineEffect
carried_out (OnBox o) s line = on_box s (ordered o s.made line)
carried_out Piece s line = on_link (link_place line) s (pieced_by s.made (receiver_at (link_place line) s) line)

unfoldable pub answered : Held → List ℕ → LineEffect
answered s line = carried_out (order_of line) s line

-- what a line left, as the code says it: what is held after it, and the length of its text
abbrev pub Left : Type 0
Left = Answered Held

-- the promise: what is held after the line, and its text at the front of the area, cut off where the area ends
pub record Leaves (o : LineEffect) (r : Left) (area area' : List ℕ) : Type 0 where
  pub held_is : r.after ≡ o.held
  pub text_is : Puts o.text area 0 area' r.len
