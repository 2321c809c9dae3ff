-- Who is addressed, in the words of document 01 and independent of the step: each row of its addressing is one rung of the
-- definition, and in a valid box no two W panels share a pair.
use mathlib.Core.Path.{◌≡◌, refl, sym, ap, subst, ◌∙◌}
use mathlib.Core.Bool.{Bool, true, false, cond, ◌&&◌, and-false}
use mathlib.Core.List.{List, [], ◌∷◌}
use Prim.Native.Nat.{ℕ, zero, suc, ◌<◌, ◌≤◌}
use native.Mathlib.Omega.{arith}
use lib.Dec.{eqb, leb, ltb}
use lib.ListN.{get_or, length, take}
use lib.Seq.{get_or-take, length-take-le, take_all}
use borrow.Author.Tests.{ne_eqb, ltb-true, ltb-false, le-leb, lt-leb}
use Rattle.laws.specs.Bytes.{begins}
use Rattle.laws.specs.Lists.{every}
use Rattle.laws.proofs.Conditions.{and_second}
use Rattle.terms.specs.declared.GroupId.{GroupId}
use Rattle.terms.specs.declared.UnitId.{UnitId}
use Rattle.panels.specs.Records.{family_w, family_k}
use Rattle.panels.specs.Valid.{ok_panel, distinct, in_use, valid}
use Rattle.panels.specs.declared.Panel.{Panel}
use Rattle.panels.specs.declared.DisplayBox.{DisplayBox}
use Rattle.sdcp_asks.specs.Asks.{front, is_ours, group_of, unit_of}
use Rattle.steps.specs.Messages.{rs232c, kjw, tcp, udp, Name, nobody, a_w, a_k, name_of, names, is_w}
use Rattle.steps.specs.Addressing.{has_ids, is_id, is_pair, pair_number, by_tcp, target, is_called, addressed}
use Rattle.steps.specs.Step.{panel_at}
use Rattle.steps.proofs.Finding.{only_pair}
use Rattle.steps.proofs.Validity.{valid_names, bad_names, in_use_name}

-- ---- by link

-- "An RS-232C or KJW message is addressed to the panel of its link."
pub by_serial_link : (ns : List Name) (l : ℕ) (m area : List ℕ) (i : ℕ) → addressed ns (rs232c l m area) i ≡ eqb l (suc i)
unfolding addressed target
by_serial_link ns l m area i = refl

pub by_frame_link : (ns : List Name) (l : ℕ) (m area : List ℕ) (i : ℕ) → addressed ns (kjw l m area) i ≡ eqb l (suc i)
unfolding addressed target
by_frame_link ns l m area i = refl

-- "TCP: 0/0 is the link's own panel"
pub by_own_link : (ns : List Name) (l : ℕ) (m area : List ℕ) (i : ℕ) → has_ids m ≡ true → group_of m ≡ 0 → unit_of m ≡ 0 → addressed ns (tcp l m area) i ≡ eqb l (suc i)
unfolding addressed target by_tcp
by_own_link ns l m area i h g u = rw (h, g, u)

-- ---- by pair

is_id_lem : (n : ℕ) → 1 ≤ n → n ≤ 99 → is_id n ≡ true
is_id_lem n h k = rw (le-leb 1 n h, le-leb n 99 k)

no_id : (n : ℕ) → 100 ≤ n → is_id n ≡ false
no_id n h = rw (lt-leb n 99 h, and-false (leb 1 n))

all_apart_lem : (b : DisplayBox) → valid b ≡ true → distinct (in_use b) ≡ true
unfolding valid
all_apart_lem b v = and_second (leb 1 b.count && leb b.count 8 && every ok_panel (in_use b)) (distinct (in_use b)) v

-- in the names of every box: a bad box has none
only_named : (b : DisplayBox) (g : GroupId) (u : UnitId) (i : ℕ) → eqb (pair_number g u 1 (names b)) (suc i) ≡ is_pair g u (get_or (names b) i nobody)
unfolding distinct
only_named b g u i = judge (valid b) refl
  where
    P : List Name → Type 0
    P ns = eqb (pair_number g u 1 ns) (suc i) ≡ is_pair g u (get_or ns i nobody)

    judge : (v : Bool) → valid b ≡ v → P (names b)
    judge true v = subst P (sym (valid_names b v)) (only_pair g u 1 (in_use b) i (suc i) (omega arith) (omega arith) (all_apart_lem b v))
    judge false v = subst P (sym (bad_names b v)) (only_pair g u 1 [] i (suc i) (omega arith) (omega arith) refl)

-- "1..99/1..99 is the W panel with that pair": exactly the one that has both, whatever the link
pub by_pair : (b : DisplayBox) (l : ℕ) (m area : List ℕ) (i : ℕ) → has_ids m ≡ true → 1 ≤ group_of m → group_of m ≤ 99 → 1 ≤ unit_of m → unit_of m ≤ 99 → addressed (names b) (tcp l m area) i ≡ is_pair (record { 0 = group_of m }) (record { 0 = unit_of m }) (get_or (names b) i nobody)
unfolding addressed target by_tcp
by_pair b l m area i h g g' u u' =
    rw (h, ne_eqb (group_of m) 0 (λ z. omega arith), is_id_lem (group_of m) g g', is_id_lem (unit_of m) u u')
    (only_named b (record { 0 = group_of m }) (record { 0 = unit_of m }) i)

-- ---- by group, and all

-- a W panel of group g
abbrev pub in_group : ℕ → Name → Bool
in_group g nobody = false
in_group g (a_w g' u') = eqb g g'.0
in_group g a_k = false

-- "UDP: 1..99/FFh is every W panel of that group"
pub by_group : (ns : List Name) (m : List ℕ) (i : ℕ) → has_ids m ≡ true → 1 ≤ group_of m → group_of m ≤ 99 → unit_of m ≡ 0xff → addressed ns (udp m) i ≡ in_group (group_of m) (get_or ns i nobody)
unfolding addressed is_called
by_group ns m i h g g' u = go (get_or ns i nobody)
  where
    go : (x : Name) → is_called m x ≡ in_group (group_of m) x
    go nobody = refl
    go (a_w a c) = rw (h, u, ne_eqb (group_of m) 0xff (λ z. omega arith), is_id_lem (group_of m) g g')
    go a_k = refl

-- "FFh/FFh every W panel"
pub by_all : (ns : List Name) (m : List ℕ) (i : ℕ) → has_ids m ≡ true → group_of m ≡ 0xff → unit_of m ≡ 0xff → addressed ns (udp m) i ≡ is_w (get_or ns i nobody)
unfolding addressed is_called
by_all ns m i h g u = go (get_or ns i nobody)
  where
    go : (x : Name) → is_called m x ≡ is_w x
    go nobody = refl
    go (a_w a c) = rw (h, g, u)
    go a_k = refl

-- ---- "All else addresses nobody."

-- fewer than eight bytes, or a wrong version, category or community
no_ids_tcp : (ns : List Name) (l : ℕ) (m area : List ℕ) (i : ℕ) → has_ids m ≡ false → addressed ns (tcp l m area) i ≡ false
unfolding addressed target by_tcp
no_ids_tcp ns l m area i h = rw h (ne_eqb 0 (suc i) (λ z. omega arith))

none_called : (ns : List Name) (m : List ℕ) (i : ℕ) → ((g : GroupId) (u : UnitId) → is_called m (a_w g u) ≡ false) → addressed ns (udp m) i ≡ false
unfolding addressed is_called
none_called ns m i n = go (get_or ns i nobody)
  where
    go : (x : Name) → is_called m x ≡ false
    go nobody = refl
    go (a_w g u) = n g u
    go a_k = refl

no_ids_udp : (ns : List Name) (m : List ℕ) (i : ℕ) → has_ids m ≡ false → addressed ns (udp m) i ≡ false
unfolding is_called
no_ids_udp ns m i h = none_called ns m i (λ g u. rw h)

no_ids_short : (m : List ℕ) → length m < 8 → has_ids m ≡ false
unfolding has_ids
no_ids_short m h = rw (lt-leb 8 (length m) h)

no_ids_foreign : (m : List ℕ) → is_ours m ≡ false → has_ids m ≡ false
unfolding has_ids
no_ids_foreign m f = rw (f, and-false)

-- each by itself: fewer than eight bytes have no group and unit, whatever they are
pub short_tcp : (ns : List Name) (l : ℕ) (m area : List ℕ) (i : ℕ) → length m < 8 → addressed ns (tcp l m area) i ≡ false
short_tcp ns l m area i h = no_ids_tcp ns l m area i (no_ids_short m h)

pub short_udp : (ns : List Name) (m : List ℕ) (i : ℕ) → length m < 8 → addressed ns (udp m) i ≡ false
short_udp ns m i h = no_ids_udp ns m i (no_ids_short m h)

-- and with a wrong version, category or community a group and a unit name nobody
pub foreign_tcp : (ns : List Name) (l : ℕ) (m area : List ℕ) (i : ℕ) → is_ours m ≡ false → addressed ns (tcp l m area) i ≡ false
foreign_tcp ns l m area i f = no_ids_tcp ns l m area i (no_ids_foreign m f)

pub foreign_udp : (ns : List Name) (m : List ℕ) (i : ℕ) → is_ours m ≡ false → addressed ns (udp m) i ≡ false
foreign_udp ns m i f = no_ids_udp ns m i (no_ids_foreign m f)

-- TCP with a group and a unit that are neither 0/0 nor 1..99/1..99, as 0/5, 5/0, FFh/FFh and 1/FFh
pub else_tcp : (ns : List Name) (l : ℕ) (m area : List ℕ) (i : ℕ) → (eqb (group_of m) 0 && eqb (unit_of m) 0) ≡ false → (is_id (group_of m) && is_id (unit_of m)) ≡ false → addressed ns (tcp l m area) i ≡ false
unfolding addressed target by_tcp
else_tcp ns l m area i a c = rw (a, c) (go (has_ids m))
  where
    go : (h : Bool) → eqb (cond h 0 0) (suc i) ≡ false
    go true = ne_eqb 0 (suc i) (λ z. omega arith)
    go false = ne_eqb 0 (suc i) (λ z. omega arith)

-- the same in numbers: these four are all the rest
pub zero_group : (ns : List Name) (l : ℕ) (m area : List ℕ) (i : ℕ) → group_of m ≡ 0 → 1 ≤ unit_of m → addressed ns (tcp l m area) i ≡ false
zero_group ns l m area i g u = else_tcp ns l m area i (rw (g, ne_eqb (unit_of m) 0 (λ z. omega arith))) (rw g)

pub zero_unit : (ns : List Name) (l : ℕ) (m area : List ℕ) (i : ℕ) → 1 ≤ group_of m → unit_of m ≡ 0 → addressed ns (tcp l m area) i ≡ false
zero_unit ns l m area i g u = else_tcp ns l m area i (rw (ne_eqb (group_of m) 0 (λ z. omega arith))) (rw (u, and-false (is_id (group_of m))))

pub high_group : (ns : List Name) (l : ℕ) (m area : List ℕ) (i : ℕ) → 100 ≤ group_of m → addressed ns (tcp l m area) i ≡ false
high_group ns l m area i g = else_tcp ns l m area i (rw (ne_eqb (group_of m) 0 (λ z. omega arith))) (rw (no_id (group_of m) g))

pub high_unit : (ns : List Name) (l : ℕ) (m area : List ℕ) (i : ℕ) → 100 ≤ unit_of m → addressed ns (tcp l m area) i ≡ false
high_unit ns l m area i u = else_tcp ns l m area i (rw (ne_eqb (unit_of m) 0 (λ z. omega arith), and-false (eqb (group_of m) 0))) (rw (no_id (unit_of m) u, and-false (is_id (group_of m))))

-- UDP with a unit other than FFh, as 0/0, 1/1 and FFh/1
pub else_unit : (ns : List Name) (m : List ℕ) (i : ℕ) → (unit_of m ≡ 0xff → ⊥) → addressed ns (udp m) i ≡ false
unfolding is_called
else_unit ns m i n = none_called ns m i (λ g u. rw (ne_eqb (unit_of m) 0xff n, and-false (has_ids m)))

-- and with a group that is neither FFh nor 1..99, as 0/FFh and 100/FFh
pub else_group : (ns : List Name) (m : List ℕ) (i : ℕ) → (group_of m ≡ 0xff → ⊥) → is_id (group_of m) ≡ false → addressed ns (udp m) i ≡ false
unfolding is_called
else_group ns m i n k = none_called ns m i (λ g u. rw (ne_eqb (group_of m) 0xff n, k, and-false (has_ids m && eqb (unit_of m) 0xff)))

-- ---- "The header and way in decide this; nothing after byte 7 does."

-- what begins a list begins its front
begins_front : (p s : List ℕ) (n : ℕ) → length p ≤ n → begins p (take n s) ≡ begins p s
begins_front [] s n h = refl
begins_front (x ∷ p) s zero h = absurd (omega arith)
begins_front (x ∷ p) [] (suc n) h = refl
begins_front (x ∷ p) (y ∷ s) (suc n) h = ap (λ (b : Bool). eqb x y && b) (begins_front p s n (omega arith))

front_asked : (m : List ℕ) → has_ids (take 8 m) ≡ has_ids m
unfolding has_ids is_ours
front_asked m = go (ltb (length m) 8) refl
  where
    go : (b : Bool) → ltb (length m) 8 ≡ b → has_ids (take 8 m) ≡ has_ids m
    go true t = let h = ltb-true (length m) 8 t in ap has_ids (take_all 8 m (omega arith))
    go false t =
        let h = ltb-false (length m) 8 t in
        rw (length-take-le 8 m h, le-leb 8 (length m) h) (begins_front front m 8 (omega arith))

module _ (ns : List Name) (m m' : List ℕ) (e : take 8 m ≡ take 8 m') where
  asked_alike : has_ids m ≡ has_ids m'
  asked_alike = sym (front_asked m) ∙ ap has_ids e ∙ front_asked m'

  byte_alike : (k : ℕ) → k < 8 → get_or m k 0 ≡ get_or m' k 0
  byte_alike k h = sym (get_or-take 8 m k 0 h) ∙ ap (λ (s : List ℕ). get_or s k 0) e ∙ get_or-take 8 m' k 0 h

  pub target_alike : (l : ℕ) → by_tcp ns l m ≡ by_tcp ns l m'
  unfolding by_tcp
  target_alike l = rw (asked_alike, byte_alike 6 (omega arith), byte_alike 7 (omega arith))

  pub called_alike : (x : Name) → is_called m x ≡ is_called m' x
  unfolding is_called
  called_alike nobody = refl
  called_alike (a_w g u) = rw (asked_alike, byte_alike 6 (omega arith), byte_alike 7 (omega arith))
  called_alike a_k = refl

  pub header_tcp : (l : ℕ) (area area' : List ℕ) (i : ℕ) → addressed ns (tcp l m area) i ≡ addressed ns (tcp l m' area') i
  unfolding addressed target
  header_tcp l area area' i = ap (λ (n : ℕ). eqb n (suc i)) (target_alike l)

  pub header_udp : (i : ℕ) → addressed ns (udp m) i ≡ addressed ns (udp m') i
  unfolding addressed
  header_udp i = called_alike (get_or ns i nobody)

-- ---- the same read off the records: "A group ID is never taken for a unit ID"

pair_panel : (g : GroupId) (u : UnitId) (p : Panel) → is_pair g u (name_of p) ≡ (eqb p.family family_w && (eqb g.0 p.group.0 && eqb u.0 p.unit.0))
unfolding is_pair name_of
pair_panel g u p = go (eqb p.family family_w) (eqb p.family family_k)
  where
    go : (a c : Bool) → is_pair g u (cond a (a_w p.group p.unit) (cond c a_k nobody)) ≡ (a && (eqb g.0 p.group.0 && eqb u.0 p.unit.0))
    go true c = refl
    go false true = refl
    go false false = refl

group_panel : (g : ℕ) (p : Panel) → in_group g (name_of p) ≡ (eqb p.family family_w && eqb g p.group.0)
unfolding name_of
group_panel g p = go (eqb p.family family_w) (eqb p.family family_k)
  where
    go : (a c : Bool) → in_group g (cond a (a_w p.group p.unit) (cond c a_k nobody)) ≡ (a && eqb g p.group.0)
    go true c = refl
    go false true = refl
    go false false = refl

pub w_panel : (p : Panel) → is_w (name_of p) ≡ eqb p.family family_w
unfolding name_of
w_panel p = go (eqb p.family family_w) (eqb p.family family_k)
  where
    go : (a c : Bool) → is_w (cond a (a_w p.group p.unit) (cond c a_k nobody)) ≡ a
    go true c = refl
    go false true = refl
    go false false = refl

-- of each panel in use of a valid box
module _ (b : DisplayBox) (i : ℕ) (v : valid b ≡ true) (k : i < b.count) where
  -- by TCP with 1..99/1..99: a W panel whose group is the packet's group and whose unit is its unit
  pub pair_in_box : (l : ℕ) (m area : List ℕ) → has_ids m ≡ true → 1 ≤ group_of m → group_of m ≤ 99 → 1 ≤ unit_of m → unit_of m ≤ 99 → addressed (names b) (tcp l m area) i ≡ (eqb (panel_at i b).family family_w && (eqb (group_of m) (panel_at i b).group.0 && eqb (unit_of m) (panel_at i b).unit.0))
  pair_in_box l m area q g g' u u' =
      by_pair b l m area i q g g' u u'
      ∙ ap (is_pair (record { 0 = group_of m }) (record { 0 = unit_of m })) (in_use_name b i v k)
      ∙ pair_panel (record { 0 = group_of m }) (record { 0 = unit_of m }) (panel_at i b)

  -- by UDP with 1..99/FFh: a W panel whose group is the packet's group
  pub group_in_box : (m : List ℕ) → has_ids m ≡ true → 1 ≤ group_of m → group_of m ≤ 99 → unit_of m ≡ 0xff → addressed (names b) (udp m) i ≡ (eqb (panel_at i b).family family_w && eqb (group_of m) (panel_at i b).group.0)
  group_in_box m q g g' u = by_group (names b) m i q g g' u ∙ ap (in_group (group_of m)) (in_use_name b i v k) ∙ group_panel (group_of m) (panel_at i b)

  -- by UDP with FFh/FFh: a W panel
  pub all_in_box : (m : List ℕ) → has_ids m ≡ true → group_of m ≡ 0xff → unit_of m ≡ 0xff → addressed (names b) (udp m) i ≡ eqb (panel_at i b).family family_w
  all_in_box m q g u = by_all (names b) m i q g u ∙ ap is_w (in_use_name b i v k) ∙ w_panel (panel_at i b)
