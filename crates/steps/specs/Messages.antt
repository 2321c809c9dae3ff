-- Document 01, "The box and its messages": a message, and what of a box decides whom it addresses.
use Rattle.std.specs.Prelude.{ℕ, zero, suc, Bool, true, false, cond, List, [], map, eqb, get_or}
use Rattle.terms.specs.declared.GroupId.{GroupId}
use Rattle.terms.specs.declared.UnitId.{UnitId}
use Rattle.panels.specs.Records.{family_w, family_k}
use Rattle.panels.specs.Valid.{in_use, valid}
use Rattle.panels.specs.declared.Panel.{Panel}
use Rattle.panels.specs.declared.DisplayBox.{DisplayBox}

-- "A message is a byte string with its way in: RS-232C port of panel p, KJW link of panel p, SDCP by TCP on the link of panel
-- p, or SDCP by UDP. All but UDP come with a lent reply area. Each message is whole here."
pub data Message : Type 0 where
  rs232c : ℕ → List ℕ → List ℕ → Message
  kjw : ℕ → List ℕ → List ℕ → Message
  tcp : ℕ → List ℕ → List ℕ → Message
  udp : List ℕ → Message

-- what a panel is called by: "Each panel is of family W [..] or family K [..]. A W panel has a group ID [..] and a unit ID [..]"
pub data Name : Type 0 where
  nobody : Name
  a_w : GroupId → UnitId → Name
  a_k : Name

unfoldable pub name_of : Panel → Name
name_of p = cond (eqb p.family family_w) (a_w p.group p.unit) (cond (eqb p.family family_k) a_k nobody)

-- "A box handed in that breaks these rules [..] is answered as a box of no panels": it has no names
unfoldable pub names : DisplayBox → List Name
names b = cond (valid b) (map name_of (in_use b)) []

-- panels are "numbered from 1 in the order given; that is also the link number"
abbrev pub on_link : List Name → ℕ → Name
on_link ns zero = nobody
on_link ns (suc i) = get_or ns i nobody

abbrev pub is_w : Name → Bool
is_w nobody = false
is_w (a_w g u) = true
is_w a_k = false

abbrev pub is_k : Name → Bool
is_k nobody = false
is_k (a_w g u) = false
is_k a_k = true
