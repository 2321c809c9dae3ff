-- Document 01, "The box and its messages": the rules that a box keeps, judged of any box that can be handed in.
use Rattle.std.specs.Prelude.{ℕ, Bool, true, not, cond, ◌&&◌, List, [], ◌∷◌, eqb, leb, take, replicate, ℤ, pos, negsuc}
use Rattle.std.specs.Int.Signed.{le_z}
use Rattle.laws.specs.Lists.{every, listed, within}
use Rattle.settings.specs.Table.{least_shift, most_shift, mosts}
use Rattle.terms.specs.declared.GroupId.{GroupId}
use Rattle.terms.specs.declared.UnitId.{UnitId}
use Rattle.panels.specs.Records.{family_w, family_k, connectors, presets, kinds, most_volume, last_scene}
use Rattle.panels.specs.declared.Inputs.{Inputs}
use Rattle.panels.specs.declared.Balance.{Balance}
use Rattle.panels.specs.declared.WRecord.{WRecord}
use Rattle.panels.specs.declared.KRecord.{KRecord}
use Rattle.panels.specs.declared.Panel.{Panel}
use Rattle.panels.specs.declared.DisplayBox.{DisplayBox}

-- "SHIFTH or SHIFTV with -30 to +30"
unfoldable pub ok_shift : ℤ → Bool
ok_shift z = le_z least_shift z && le_z z (pos most_shift)

-- "A gain is taken modulo 4096": 0 to 4095
unfoldable pub ok_gain : ℕ → Bool
ok_gain x = leb x 4095

-- a bias: "-1024 to 1023"
unfoldable pub ok_bias : ℤ → Bool
ok_bias z = le_z (negsuc 1023) z && le_z z (pos 1023)

-- a listed connector in use, a listed preset, and each connector OFF (0) or ON (1)
unfoldable pub ok_inputs : Inputs → Bool
ok_inputs i = listed connectors i.used && listed presets i.preset && within i.on (replicate 10 1)

unfoldable pub ok_balance : Balance → Bool
ok_balance b = every ok_gain b.gains && every ok_bias b.biases

-- every setting of family W in its range
unfoldable pub ok_w : WRecord → Bool
ok_w w = within w.settings mosts && every ok_shift w.shifts && ok_inputs w.inputs && ok_balance w.balance

-- INPT: "type 1, 3, 4 or 5, [..] port 0001 to 9999"
unfoldable pub ok_input : ℕ → ℕ → Bool
ok_input kind port = listed kinds kind && leb 1 port && leb port 9999

-- every setting of family K in its range
unfoldable pub ok_k : KRecord → Bool
ok_k k =
    leb k.power 1 && leb k.amut 1 && leb k.pmut 1 && leb k.volume most_volume && leb k.scene last_scene
    && ok_input k.kind k.port

-- "A W panel has a group ID 1 to 99 and a unit ID 1 to 99"
unfoldable pub ok_ids : GroupId → UnitId → Bool
ok_ids g u = leb 1 g.0 && leb g.0 99 && leb 1 u.0 && leb u.0 99

-- "A K panel has 0 for both."
unfoldable pub zero_ids : GroupId → UnitId → Bool
zero_ids g u = eqb g.0 0 && eqb u.0 0

-- "Each panel is of family W [..] or family K": its IDs, and the settings of its own family
unfoldable pub ok_family : Panel → Bool
ok_family p =
    cond (eqb p.family family_w) (ok_ids p.group p.unit && ok_w p.w)
    (eqb p.family family_k && zero_ids p.group p.unit && ok_k p.k)

-- one panel by itself
unfoldable pub ok_panel : Panel → Bool
ok_panel p = ok_family p

-- two W panels that share both IDs: a group is compared with a group, a unit with a unit
unfoldable pub share : Panel → Panel → Bool
share p q =
    eqb p.family family_w && eqb q.family family_w
    && eqb p.group.0 q.group.0 && eqb p.unit.0 q.unit.0

abbrev pub apart : Panel → Panel → Bool
apart p q = not (share p q)

-- "no two W panels share both"
unfoldable pub distinct : List Panel → Bool
distinct [] = true
distinct (p ∷ ps) = every (apart p) ps && distinct ps

-- the panels that the box holds; the places behind them are not judged
abbrev pub in_use : DisplayBox → List Panel
in_use b = take b.count b.panels

-- "A box holds 1 to 8 panels", and they keep the rules
unfoldable pub valid : DisplayBox → Bool
valid b = leb 1 b.count && leb b.count 8 && every ok_panel (in_use b) && distinct (in_use b)
