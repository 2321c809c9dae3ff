-- Each promise at the door allows one outcome: its equations have the same right sides.
use Prim.Native.Nat.{ℕ}
use mathlib.Core.Path.{◌≡◌, sym, ◌∙◌}
use mathlib.Core.List.{List}
use lib.ListN.{length}
use Rattle.laws.specs.Bytes.{Sent}
use Rattle.panels.specs.declared.WRecord.{WRecord}
use Rattle.rs232c_asks.specs.declared.Order.{Order}
use Rattle.rs232c_tells.specs.Room.{fitting}
use Rattle.rs232c_tells.specs.Texts.{bytes_of, reply_to}
use Rattle.rs232c_tells.specs.declared.Reply.{Reply}

pub reply_to_one : (source : ℕ) (o : Order) (w : WRecord) (r r' : Reply) → r ≡ reply_to source o w → r' ≡ reply_to source o w → r ≡ r'
reply_to_one source o w r r' p q = p ∙ sym q

pub send_one : (reply : Reply) (area : List ℕ) (n n' : ℕ) (z z' : List ℕ) → Sent (fitting (length area) (bytes_of reply)) n area z → Sent (fitting (length area) (bytes_of reply)) n' area z' → (n ≡ n') × (z ≡ z')
send_one reply area n n' z z' p q = (p.length_is ∙ sym q.length_is, p.area_is ∙ sym q.area_is)
