-- The promise at the door allows one outcome: its equations have one right side each.
use Prim.Native.Nat.{ℕ}
use mathlib.Core.Path.{◌≡◌, sym, ◌∙◌}
use mathlib.Core.List.{List}
use lib.ListN.{length}
use Rattle.laws.specs.Bytes.{Sent}
use Rattle.panels.specs.declared.KRecord.{KRecord}
use Rattle.kjw_tells.specs.Texts.{bytes_of, fitting}
use Rattle.kjw_tells.specs.declared.Reply.{Reply}

pub send_one : (r : Reply) (k : KRecord) (l area : List ℕ) (n n' : ℕ) (z z' : List ℕ) → Sent (fitting (length area) (bytes_of r k l)) n area z
    → Sent (fitting (length area) (bytes_of r k l)) n' area z' → (n ≡ n') × (z ≡ z')
send_one r k l area n n' z z' p q = (p.length_is ∙ sym q.length_is, p.area_is ∙ sym q.area_is)
