-- The door that the code reads off the IDs is the step's: the names behind the panels in use are nobody's, and change nothing.
use Prim.Native.Nat.{ℕ, zero, suc, ◌-◌, ◌<◌, ◌≤◌}
use mathlib.Core.Path.{◌≡◌, refl, sym, ap, subst, ◌∙◌}
use mathlib.Core.Bool.{Bool, true, false, cond, ◌&&◌, ◌||◌}
use mathlib.Core.List.{List, [], ◌∷◌, ◌++◌, map, map-append}
use native.Mathlib.Omega.{arith}
use lib.Dec.{eqb, leb, ltb}
use lib.ListN.{length, get_or, take, replicate, length-map}
use Rattle.std.specs.Prelude.{Result, Ok, Err}
use borrow.Author.Tests.{ltb-true, ltb-false, le-ltb, eqb-true, eqb-false, ne_eqb, leb-true}
use Rattle.laws.specs.Lists.{every}
use Rattle.laws.proofs.Conditions.{and_first, and_second, false_true}
use Rattle.terms.specs.declared.Answer.{Answer}
use Rattle.terms.specs.declared.Answer.TheVariants.{Done, AreaTooSmall, NoSuchPanel}
use Rattle.terms.specs.declared.GroupId.{GroupId}
use Rattle.terms.specs.declared.UnitId.{UnitId}
use Rattle.panels.specs.Valid.{ok_panel, distinct, in_use, valid}
use Rattle.panels.specs.declared.Panel.{Panel}
use Rattle.panels.specs.declared.DisplayBox.{DisplayBox}
use Rattle.box_rules.specs.Pairs.{ids_of, no_ids, gathered, ids_in}
use Rattle.box_rules.specs.declared.Ids.{Ids}
use Rattle.steps.specs.Messages.{Message, Name, nobody, name_of, names, on_link}
use Rattle.steps.specs.Addressing.{is_pair, pair_number, by_tcp, target, is_called, any_called}
use Rattle.steps.specs.Step.{to_nobody, door, refused, step}
use Rattle.steps.proofs.Door.{Lends, by_rs232c, by_kjw, by_tcp_lem, speaks, nobody_shut}
use Rattle.steps.proofs.Refusals.{too_small, no_such_panel}
use Rattle.addresses.specs.Doors.{id_name, is_of, target_by, opened}
use Rattle.addresses.specs.declared.Line.{Line}
use Rattle.addresses.specs.declared.Line.TheVariants.{Rs232c, Kjw, Tcp}
use Rattle.ways_in.specs.Promise.{message_of}
use Rattle.ways_in.proofs.Stores.{Lent, stored, one_turn, tcp_bound}

-- "A box holds 1 to 8 panels"
pub valid_count : (b : DisplayBox) → valid b ≡ true → b.count ≤ 8
unfolding valid
valid_count b e = leb-true b.count 8 (and_second (leb 1 b.count) (leb b.count 8) (and_first (leb 1 b.count && leb b.count 8) (every ok_panel (in_use b)) (and_first (leb 1 b.count && leb b.count 8 && every ok_panel (in_use b)) (distinct (in_use b)) e)))

-- ---- the names read off the IDs are the box's, and nobody's behind them

nobodies : (k : ℕ) → map id_name (replicate k no_ids) ≡ replicate k nobody
unfolding id_name
nobodies zero = refl
nobodies (suc k) = ap (λ (l : List Name). nobody ∷ l) (nobodies k)

named : (l : List Panel) → map id_name (map ids_of l) ≡ map name_of l
unfolding id_name name_of
named [] = refl
named (p ∷ l) = ap (λ (ns : List Name). name_of p ∷ ns) (named l)

pub padded : (b : DisplayBox) → (k : ℕ) × (map id_name (ids_in b) ≡ names b ++ replicate k nobody)
unfolding ids_in names
padded b = go (valid b)
  where
    go : (v : Bool) → (k : ℕ) × (map id_name (cond v (gathered b.panels b.count) (replicate 8 no_ids)) ≡ cond v (map name_of (in_use b)) [] ++ replicate k nobody)
    go true = (8 - b.count, rw (map-append, named (in_use b), nobodies (8 - b.count)))
    go false = (8, nobodies 8)

none : (k i : ℕ) → get_or (replicate k nobody) i nobody ≡ nobody
none zero i = refl
none (suc k) zero = refl
none (suc k) (suc i) = none k i

at_padded : (ns : List Name) (k i : ℕ) → get_or (ns ++ replicate k nobody) i nobody ≡ get_or ns i nobody
at_padded [] k i = none k i
at_padded (x ∷ ns) k zero = refl
at_padded (x ∷ ns) k (suc i) = at_padded ns k i

on_padded : (ns : List Name) (k l : ℕ) → on_link (ns ++ replicate k nobody) l ≡ on_link ns l
on_padded ns k zero = refl
on_padded ns k (suc i) = at_padded ns k i

pair_padded : (g : GroupId) (u : UnitId) (n : ℕ) (ns : List Name) (k : ℕ) → pair_number g u n (ns ++ replicate k nobody) ≡ pair_number g u n ns
unfolding pair_number is_pair
pair_padded g u n [] zero = refl
pair_padded g u n [] (suc k) = pair_padded g u (suc n) [] k
pair_padded g u n (x ∷ ns) k = ap (λ (r : ℕ). cond (is_pair g u x) n r) (pair_padded g u (suc n) ns k)

target_padded : (line : Line) (ns : List Name) (k l : ℕ) (m : List ℕ) → target_by line (ns ++ replicate k nobody) l m ≡ target_by line ns l m
unfolding by_tcp
target_padded Rs232c ns k l m = refl
target_padded Kjw ns k l m = refl
target_padded Tcp ns k l m = rw (pair_padded (record { 0 = get_or m 6 0 }) (record { 0 = get_or m 7 0 }) 1 ns k)

pub opened_padded : (line : Line) (ns : List Name) (k l : ℕ) (m : List ℕ) (room : ℕ) → opened line (ns ++ replicate k nobody) l m room ≡ opened line ns l m room
unfolding opened
opened_padded line ns k l m room = rw (on_padded ns k l, target_padded line ns k l m)

pub any_padded : (m : List ℕ) (ns : List Name) (k : ℕ) → any_called m (ns ++ replicate k nobody) ≡ any_called m ns
unfolding is_called
any_padded m [] zero = refl
any_padded m [] (suc k) = any_padded m [] k
any_padded m (x ∷ ns) k = ap (λ (t : Bool). is_called m x || t) (any_padded m ns k)

-- ---- what comes of a message with a link, by its door

-- a link that a name stands on is one of the names
inside : (line : Line) (ns : List Name) (l : ℕ) → is_of line (on_link ns l) ≡ true → (1 ≤ l) × (l ≤ length ns)
inside Rs232c ns zero e = absurd (false_true e)
inside Kjw ns zero e = absurd (false_true e)
inside Tcp ns zero e = absurd (false_true e)
inside line ns (suc i) e = (omega arith, within line ns i e)
  where
    empty : (line : Line) → is_of line nobody ≡ true → ⊥
    empty Rs232c e = false_true e
    empty Kjw e = false_true e
    empty Tcp e = false_true e

    within : (line : Line) (ns : List Name) (i : ℕ) → is_of line (get_or ns i nobody) ≡ true → suc i ≤ length ns
    within line [] i e = absurd (empty line e)
    within line (x ∷ ns) zero e = omega arith
    within line (x ∷ ns) (suc i) e = let h = within line ns i e in omega arith

pub target_bound : (line : Line) (ns : List Name) (l : ℕ) (m : List ℕ) → is_of line (on_link ns l) ≡ true → target_by line ns l m ≤ length ns
target_bound Rs232c ns l m e = (inside Rs232c ns l e).1
target_bound Kjw ns l m e = (inside Kjw ns l e).1
target_bound Tcp ns l m e = tcp_bound ns l m (inside Tcp ns l e).1

pub at_bound : (line : Line) (ns : List Name) (l : ℕ) (m : List ℕ) (room i : ℕ) → opened line ns l m room ≡ Ok i → i < length ns
unfolding opened
at_bound line ns l m room i e = go (ltb room 512) (is_of line (on_link ns l)) refl (eqb (target_by line ns l m) 0) refl e
  where
    number : Result ℕ Answer → ℕ
    number (Err a) = 0
    number (Ok j) = suc j

    go : (x y : Bool) → is_of line (on_link ns l) ≡ y → (z : Bool) → eqb (target_by line ns l m) 0 ≡ z → cond x (Err AreaTooSmall) (cond y (cond z (Err (to_nobody m)) (Ok (target_by line ns l m - 1))) (Err NoSuchPanel)) ≡ Ok i → i < length ns
    go true y ey z ez e = absurd (let q : ◌≡◌ {A = ℕ} 0 (suc i) = ap number e in omega arith)
    go false false ey z ez e = absurd (let q : ◌≡◌ {A = ℕ} 0 (suc i) = ap number e in omega arith)
    go false true ey true ez e = absurd (let q : ◌≡◌ {A = ℕ} 0 (suc i) = ap number e in omega arith)
    go false true ey false ez e =
        let q : suc (target_by line ns l m - 1) ≡ suc i = ap number e in
        let t = target_bound line ns l m ey in
        let n = eqb-false (target_by line ns l m) 0 ez in
        omega arith

pub lends : (line : Line) (l : ℕ) (m area : List ℕ) → Lends l area (message_of line l m area)
lends Rs232c l m area = by_rs232c m
lends Kjw l m area = by_kjw m
lends Tcp l m area = by_tcp_lem m

links : (line : Line) (l : ℕ) (m area : List ℕ) → Lent (message_of line l m area)
links Rs232c l m area = tt
links Kjw l m area = tt
links Tcp l m area = tt

speaks_to : (line : Line) (l : ℕ) (m area : List ℕ) (x : Name) → speaks (message_of line l m area) x ≡ is_of line x
speaks_to Rs232c l m area x = refl
speaks_to Kjw l m area x = refl
speaks_to Tcp l m area x = refl

targets : (line : Line) (ns : List Name) (l : ℕ) (m area : List ℕ) → target ns (message_of line l m area) ≡ target_by line ns l m
unfolding target
targets Rs232c ns l m area = refl
targets Kjw ns l m area = refl
targets Tcp ns l m area = refl

-- nobody is addressed: by TCP alone
to_nobody_lem : (line : Line) (b : DisplayBox) (l : ℕ) (m area : List ℕ) → 512 ≤ length area → is_of line (on_link (names b) l) ≡ true → target_by line (names b) l m ≡ 0 → step b (message_of line l m area) ≡ refused b (message_of line l m area) (to_nobody m)
unfolding step door target
to_nobody_lem Rs232c b l m area h y z = let i = (inside Rs232c (names b) l y).0 in absurd (omega (arith, i, z))
to_nobody_lem Kjw b l m area h y z = let i = (inside Kjw (names b) l y).0 in absurd (omega (arith, i, z))
to_nobody_lem Tcp b l m area h y z = rw (le-ltb (length area) 512 h, y, z, nobody_shut m)

-- somebody is
done : (line : Line) (b : DisplayBox) (l : ℕ) (m area : List ℕ) → 512 ≤ length area → is_of line (on_link (names b) l) ≡ true → (target_by line (names b) l m ≡ 0 → ⊥) → door (names b) (message_of line l m area) ≡ Done
unfolding door target
done Rs232c b l m area h y n = rw (le-ltb (length area) 512 h, y)
done Kjw b l m area h y n = rw (le-ltb (length area) 512 h, y)
done Tcp b l m area h y n = rw (le-ltb (length area) 512 h, y, ne_eqb (by_tcp (names b) l m) 0 n)

pub data AtDoor (b : DisplayBox) (m : Message) : Result ℕ Answer → Type 0 where
  turned_away : (a : Answer) → step b m ≡ refused b m a → AtDoor b m (Err a)
  let_in : (i : ℕ) → step b m ≡ stored b m i → AtDoor b m (Ok i)

inner : (line : Line) (b : DisplayBox) (l : ℕ) (m area : List ℕ) (d : Result ℕ Answer) → length (names b) ≤ length b.panels → (x : Bool) → ltb (length area) 512 ≡ x → (y : Bool) → is_of line (on_link (names b) l) ≡ y → (z : Bool) → eqb (target_by line (names b) l m) 0 ≡ z → cond x (Err AreaTooSmall) (cond y (cond z (Err (to_nobody m)) (Ok (target_by line (names b) l m - 1))) (Err NoSuchPanel)) ≡ d → AtDoor b (message_of line l m area) d
inner line b l m area d k true ex y ey z ez e = subst (AtDoor b (message_of line l m area)) e (turned_away AreaTooSmall (too_small b l area (message_of line l m area) (lends line l m area) (ltb-true (length area) 512 ex)))
inner line b l m area d k false ex false ey z ez e = subst (AtDoor b (message_of line l m area)) e (turned_away NoSuchPanel (no_such_panel b l area (message_of line l m area) (lends line l m area) (ltb-false (length area) 512 ex) (speaks_to line l m area (on_link (names b) l) ∙ ey)))
inner line b l m area d k false ex true ey true ez e = subst (AtDoor b (message_of line l m area)) e (turned_away (to_nobody m) (to_nobody_lem line b l m area (ltb-false (length area) 512 ex) ey (eqb-true (target_by line (names b) l m) 0 ez)))
inner line b l m area d k false ex true ey false ez e =
    let n = eqb-false (target_by line (names b) l m) 0 ez in
    let t = target_bound line (names b) l m ey in
    subst (AtDoor b (message_of line l m area)) e
    (let_in (target_by line (names b) l m - 1) (one_turn b (message_of line l m area) (target_by line (names b) l m) (links line l m area) (done line b l m area (ltb-false (length area) 512 ex) ey n) (targets line (names b) l m area) (omega arith) (omega arith)))

-- no more names than places
names_fit : (b : DisplayBox) → length (names b) ≤ length b.panels
unfolding names
names_fit b = go (valid b)
  where
    taken : (n : ℕ) (ps : List Panel) → length (map name_of (take n ps)) ≤ length ps
    taken zero ps = omega arith
    taken (suc n) [] = omega arith
    taken (suc n) (p ∷ ps) = let h = taken n ps in omega arith

    go : (v : Bool) → length (cond v (map name_of (in_use b)) []) ≤ length b.panels
    go true = taken b.count b.panels
    go false = omega arith

pub at_door : (line : Line) (b : DisplayBox) (l : ℕ) (m area : List ℕ) (d : Result ℕ Answer) → opened line (names b) l m (length area) ≡ d → AtDoor b (message_of line l m area) d
unfolding opened
at_door line b l m area d e = inner line b l m area d (names_fit b) (ltb (length area) 512) refl (is_of line (on_link (names b) l)) refl (eqb (target_by line (names b) l m) 0) refl e

-- ---- as the code reads it

names_read : (b : DisplayBox) (ids : List Ids) → ids ≡ ids_in b → map id_name ids ≡ names b ++ replicate (padded b).0 nobody
names_read b ids e = ap (map id_name) e ∙ (padded b).1

pub read : (line : Line) (b : DisplayBox) (l : ℕ) (m area : List ℕ) (ids : List Ids) (d : Result ℕ Answer) → ids ≡ ids_in b → opened line (map id_name ids) l m (length area) ≡ d → AtDoor b (message_of line l m area) d
read line b l m area ids d e o =
    at_door line b l m area d
    (sym (opened_padded line (names b) (padded b).0 l m (length area)) ∙ ap (λ (ns : List Name). opened line ns l m (length area)) (sym (names_read b ids e)) ∙ o)

pub called_read : (b : DisplayBox) (m : List ℕ) (ids : List Ids) → ids ≡ ids_in b → any_called m (map id_name ids) ≡ any_called m (names b)
called_read b m ids e = ap (any_called m) (names_read b ids e) ∙ any_padded m (names b) (padded b).0

pub place_read : (line : Line) (ids : List Ids) (l : ℕ) (m : List ℕ) (room i : ℕ) → length ids ≡ 8 → opened line (map id_name ids) l m room ≡ Ok i → i < 8
place_read line ids l m room i n o = let h = at_bound line (map id_name ids) l m room i o in let k = length-map ids id_name in omega (arith, h, k, n)

-- a packet that calls somebody has come to a box that keeps the rules
pub called_valid : (b : DisplayBox) (m : List ℕ) → any_called m (names b) ≡ true → valid b ≡ true
unfolding names
called_valid b m = go (valid b)
  where
    go : (v : Bool) → any_called m (cond v (map name_of (in_use b)) []) ≡ true → v ≡ true
    go true e = refl
    go false e = absurd (false_true e)
