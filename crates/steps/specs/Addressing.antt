-- Document 01, "Addressing": whom a message addresses. "The header and way in decide this; nothing after byte 7 does."
use Rattle.std.specs.Prelude.{ℕ, suc, Bool, false, cond, ◌&&◌, ◌||◌, List, [], ◌∷◌, eqb, leb, length, get_or}
use Rattle.terms.specs.declared.GroupId.{GroupId}
use Rattle.terms.specs.declared.UnitId.{UnitId}
use Rattle.sdcp_asks.specs.Asks.{is_ours, group_of, unit_of}
use Rattle.steps.specs.Messages.{Message, rs232c, kjw, tcp, udp, Name, nobody, a_w, a_k}

-- the packet has its first eight bytes, and they are SDCP's: fewer, or a wrong version, category or community, address nobody
unfoldable pub has_ids : List ℕ → Bool
has_ids m = leb 8 (length m) && is_ours m

abbrev pub is_id : ℕ → Bool
is_id n = leb 1 n && leb n 99

-- "A group ID is never taken for a unit ID, though each is one byte": like is compared with like
unfoldable pub is_pair : GroupId → UnitId → Name → Bool
is_pair g u nobody = false
is_pair g u (a_w g' u') = eqb g.0 g'.0 && eqb u.0 u'.0
is_pair g u a_k = false

-- the number of the first panel with the pair, counted from n; 0 where there is none
unfoldable pub pair_number : GroupId → UnitId → ℕ → List Name → ℕ
pair_number g u n [] = 0
pair_number g u n (x ∷ xs) = cond (is_pair g u x) n (pair_number g u (suc n) xs)

-- "TCP: 0/0 is the link's own panel; 1..99/1..99 is the W panel with that pair. [..] All else addresses nobody."
unfoldable pub by_tcp : List Name → ℕ → List ℕ → ℕ
by_tcp ns l m =
    cond (has_ids m)
    (cond (eqb (group_of m) 0 && eqb (unit_of m) 0) l
    (cond (is_id (group_of m) && is_id (unit_of m)) (pair_number (record { 0 = group_of m }) (record { 0 = unit_of m }) 1 ns) 0))
    0

-- the number of the one panel that a message with a link addresses, 0 for nobody: "An RS-232C or KJW message is addressed to the
-- panel of its link."
unfoldable pub target : List Name → Message → ℕ
target ns (rs232c l m a) = l
target ns (kjw l m a) = l
target ns (tcp l m a) = by_tcp ns l m
target ns (udp m) = 0

-- "UDP: 1..99/FFh is every W panel of that group; FFh/FFh every W panel. All else addresses nobody."
unfoldable pub is_called : List ℕ → Name → Bool
is_called m nobody = false
is_called m (a_w g u) = has_ids m && eqb (unit_of m) 0xff && (eqb (group_of m) 0xff || is_id (group_of m) && eqb (group_of m) g.0)
is_called m a_k = false

-- a message is addressed to the panel at place i
unfoldable pub addressed : List Name → Message → ℕ → Bool
addressed ns (rs232c l m a) i = eqb (target ns (rs232c l m a)) (suc i)
addressed ns (kjw l m a) i = eqb (target ns (kjw l m a)) (suc i)
addressed ns (tcp l m a) i = eqb (target ns (tcp l m a)) (suc i)
addressed ns (udp m) i = is_called m (get_or ns i nobody)

-- some panel is called
abbrev pub any_called : List ℕ → List Name → Bool
any_called m [] = false
any_called m (x ∷ xs) = is_called m x || any_called m xs
