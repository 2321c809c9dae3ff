-- Document 01, "RS-232C (002, 004)" and "Answer numbers": what a message does to a record, and what is sent back.
use Rattle.std.specs.Prelude.{ℕ, List, Result, Ok, Err}
use Rattle.terms.specs.declared.Answer.{Answer}
use Rattle.terms.specs.declared.Answer.TheVariants.{Done}
use Rattle.turns.specs.Turns.{Turn, left}
use Rattle.panels.specs.declared.WRecord.{WRecord}
use Rattle.rs232c_asks.specs.Asks.{Heard, heard_of, values_of}
use Rattle.rs232c.specs.Orders.{carried}
use Rattle.rs232c_asks.specs.declared.Order.{Order}
use Rattle.rs232c_tells.specs.declared.Reply.TheVariants.{Nak}
use Rattle.rs232c_tells.specs.Texts.{bytes_of, reply_to}

-- an order is carried out and answered; in place of one the record is left, and NAK goes to the source
abbrev pub replied : ℕ → Result Order Answer → List ℕ → WRecord → Turn WRecord
replied source (Ok o) vs w = record { after = carried o vs w; answer = Done; reply = bytes_of (reply_to source o w) }
replied source (Err a) vs w = record { after = w; answer = a; reply = bytes_of (Nak source) }

-- what a message does to the panel of its link
unfoldable pub turned : Heard → List ℕ → WRecord → Turn WRecord
turned (Err a) vs w = left w a
turned (Ok x) vs w = replied x.source x.order vs w

abbrev pub turn_of : List ℕ → WRecord → Turn WRecord
turn_of m = turned (heard_of m) (values_of m)
