-- What passes the door and is addressed to a place finds there a panel of the family that its way in speaks to: the door judges the
-- link, and a pair or a group finds W panels only.
use mathlib.Core.Path.{◌≡◌, refl, sym, ap, ◌∙◌}
use mathlib.Core.Bool.{Bool, true, false, cond, ◌&&◌, ◌||◌}
use mathlib.Core.List.{List, [], ◌∷◌}
use Prim.Native.Nat.{ℕ, zero, suc, ◌≤◌}
use native.Mathlib.Omega.{arith}
use lib.Dec.{eqb, ltb}
use lib.ListN.{length, get_or}
use borrow.Author.Tests.{eqb-true, eq-eqb, ltb-false}
use Rattle.laws.proofs.Conditions.{choose, false_true, passed as rung}
use Rattle.terms.specs.Answers.{number_of}
use Rattle.terms.proofs.Answers.{number_tells}
use Rattle.terms.specs.declared.Answer.{Answer}
use Rattle.terms.specs.declared.Answer.TheVariants.{Done, AreaTooSmall, NoSuchPanel, WrongLength, NotForUs}
use Rattle.terms.specs.declared.GroupId.{GroupId}
use Rattle.terms.specs.declared.UnitId.{UnitId}
use Rattle.panels.specs.declared.DisplayBox.{DisplayBox}
use Rattle.sdcp_asks.specs.Asks.{group_of, unit_of}
use Rattle.steps.specs.Messages.{Message, rs232c, kjw, tcp, udp, Name, nobody, a_w, a_k, names, on_link, is_w, is_k}
use Rattle.steps.specs.Addressing.{has_ids, is_id, is_pair, by_tcp, target, is_called, any_called, addressed, pair_number}
use Rattle.steps.specs.Step.{if_open, to_nobody, door, Outcome, passed, refused, step}
use Rattle.steps.proofs.Finding.{found}

-- a message that comes with a link and "with a lent reply area"
pub data Lends (l : ℕ) (area : List ℕ) : Message → Type 0 where
  by_rs232c : (m : List ℕ) → Lends l area (rs232c l m area)
  by_kjw : (m : List ℕ) → Lends l area (kjw l m area)
  by_tcp_lem : (m : List ℕ) → Lends l area (tcp l m area)

-- "All but UDP come with a lent reply area."
pub by_way : (P : Message → Type 0) → ((l : ℕ) (area : List ℕ) (m : Message) → Lends l area m → P m) → ((m : List ℕ) → P (udp m)) → (m : Message) → P m
by_way P with-link by_udp (rs232c l m area) = with-link l area (rs232c l m area) (by_rs232c m)
by_way P with-link by_udp (kjw l m area) = with-link l area (kjw l m area) (by_kjw m)
by_way P with-link by_udp (tcp l m area) = with-link l area (tcp l m area) (by_tcp_lem m)
by_way P with-link by_udp (udp m) = by_udp m

-- checks 1, 2 and 4 are passed
abbrev pub opens : List Name → Message → Bool
opens ns m = eqb (number_of (door ns m)) 0

pub opens_done : (ns : List Name) (m : Message) → opens ns m ≡ true → door ns m ≡ Done
opens_done ns m o = number_tells (door ns m) Done (omega arith) (eqb-true (number_of (door ns m)) 0 o)

pub done_opens : (ns : List Name) (m : Message) → door ns m ≡ Done → opens ns m ≡ true
done_opens ns m d = ap (λ (a : Answer). eqb (number_of a) 0) d

-- what holds of a message that passed the door and of one that was refused there holds of every step
pub by_door : (P : Outcome → Type 0) (b : DisplayBox) (m : Message) → (opens (names b) m ≡ true → P (passed (names b) b m)) → (opens (names b) m ≡ false → P (refused b m (door (names b) m))) → P (step b m)
unfolding step
by_door P b m = choose P (opens (names b) m) (passed (names b) b m) (refused b m (door (names b) m))

-- ---- a box of no panels opens to nobody

pub no_link : (l : ℕ) → on_link [] l ≡ nobody
no_link zero = refl
no_link (suc l) = refl

lent_shut : (area : List ℕ) (rest : Answer) → eqb (number_of (if_open area false rest)) 0 ≡ false
lent_shut area rest = choose (λ (a : Answer). eqb (number_of a) 0 ≡ false) (ltb (length area) 512) AreaTooSmall NoSuchPanel (λ e. refl) (λ e. refl)

pub nobody_shut : (m : List ℕ) → eqb (number_of (to_nobody m)) 0 ≡ false
unfolding to_nobody
nobody_shut m = choose (λ (a : Answer). eqb (number_of a) 0 ≡ false) (ltb (length m) 13) WrongLength NotForUs (λ e. refl) (λ e. refl)

pub shut : (m : Message) → opens [] m ≡ false
unfolding door
shut (rs232c l m area) = rw no_link (lent_shut area Done)
shut (kjw l m area) = rw no_link (lent_shut area Done)
shut (tcp l m area) = rw no_link (lent_shut area (cond (eqb (target [] (tcp l m area)) 0) (to_nobody m) Done))
shut (udp m) = nobody_shut m

-- ---- a message is of its panel's family

-- the family that a way in speaks to: RS-232C and SDCP to W, KJW to K
abbrev pub speaks : Message → Name → Bool
speaks (rs232c l m area) x = is_w x
speaks (kjw l m area) x = is_k x
speaks (tcp l m area) x = is_w x
speaks (udp m) x = is_w x

pub nobody_speaks : (m : Message) → speaks m nobody ≡ false
nobody_speaks (rs232c l m area) = refl
nobody_speaks (kjw l m area) = refl
nobody_speaks (tcp l m area) = refl
nobody_speaks (udp m) = refl

-- checks 1 and 2 stand before all others of a message with a link
pub lent_door : {l : ℕ} {area : List ℕ} {m : Message} (ns : List Name) → Lends l area m → (rest : Answer) × (door ns m ≡ if_open area (speaks m (on_link ns l)) rest)
unfolding door
lent_door ns (by_rs232c m) = (Done, refl)
lent_door ns (by_kjw m) = (Done, refl)
lent_door {l} {area} ns (by_tcp_lem m) = (cond (eqb (target ns (tcp l m area)) 0) (to_nobody m) Done, refl)

-- 1: "reply area under 512 bytes"; 2: "no panel with that link number, or it is of the other family": past them, neither applies
pub record Lent (area : List ℕ) (fits : Bool) : Type 0 where
  pub room : 512 ≤ length area
  pub link_fits : fits ≡ true

lent_passed : (area : List ℕ) (fits : Bool) (rest : Answer) → if_open area fits rest ≡ Done → Lent area fits
lent_passed area fits rest e =
    let t = rung (ltb (length area) 512) AreaTooSmall (cond fits rest NoSuchPanel) Done (λ q. let z : ◌≡◌ {A = ℕ} 1 0 = ap number_of q in omega arith) e in
    record { room = ltb-false (length area) 512 t.0; link_fits = go fits t.1 }
  where
    go : (f : Bool) → cond f rest NoSuchPanel ≡ Done → f ≡ true
    go true q = refl
    go false q = absurd (let z : ◌≡◌ {A = ℕ} 2 0 = ap number_of q in omega arith)

pub door_passed : {l : ℕ} {area : List ℕ} {m : Message} (ns : List Name) → Lends l area m → door ns m ≡ Done → Lent area (speaks m (on_link ns l))
door_passed {l} {area} {m} ns k e = lent_passed area (speaks m (on_link ns l)) (lent_door ns k).0 (sym (lent_door ns k).1 ∙ e)

pair_w : (g : GroupId) (u : UnitId) (x : Name) → is_pair g u x ≡ true → is_w x ≡ true
unfolding is_pair
pair_w g u nobody e = e
pair_w g u (a_w g' u') e = refl
pair_w g u a_k e = e

called_w : (m : List ℕ) (x : Name) → is_called m x ≡ true → is_w x ≡ true
unfolding is_called
called_w m nobody e = e
called_w m (a_w g u) e = refl
called_w m a_k e = e

link_is : (f : Name → Bool) (ns : List Name) (l i : ℕ) → eqb l (suc i) ≡ true → f (on_link ns l) ≡ true → f (get_or ns i nobody) ≡ true
link_is f ns l i e h = rw (eqb-true l (suc i) e) at h

tcp_w : (ns : List Name) (l : ℕ) (m : List ℕ) (i : ℕ) → is_w (on_link ns l) ≡ true → eqb (by_tcp ns l m) (suc i) ≡ true → is_w (get_or ns i nobody) ≡ true
unfolding by_tcp
tcp_w ns l m i w =
    choose P (has_ids m) _ 0 (λ a.
    choose P (eqb (group_of m) 0 && eqb (unit_of m) 0) l _ (λ b e. link_is is_w ns l i e w) (λ b.
    choose P (is_id (group_of m) && is_id (unit_of m)) (pair_number g u 1 ns) 0 (λ c e. pair_w g u (get_or ns i nobody) (found g u 1 ns i (suc i) (omega arith) (omega arith) e)) (λ c. no)))
    (λ a. no)
  where
    g : GroupId
    g = record { 0 = group_of m }

    u : UnitId
    u = record { 0 = unit_of m }

    P : ℕ → Type 0
    P t = eqb t (suc i) ≡ true → is_w (get_or ns i nobody) ≡ true

    no : eqb 0 (suc i) ≡ true → is_w (get_or ns i nobody) ≡ true
    no e = absurd (let z = eqb-true 0 (suc i) e in omega arith)

pub its_family : (ns : List Name) (m : Message) (i : ℕ) → door ns m ≡ Done → addressed ns m i ≡ true → speaks m (get_or ns i nobody) ≡ true
unfolding addressed target
its_family ns (rs232c l m area) i d a = link_is is_w ns l i a (door_passed ns (by_rs232c m) d).link_fits
its_family ns (kjw l m area) i d a = link_is is_k ns l i a (door_passed ns (by_kjw m) d).link_fits
its_family ns (tcp l m area) i d a = tcp_w ns l m i (door_passed ns (by_tcp_lem m) d).link_fits a
its_family ns (udp m) i d a = called_w m (get_or ns i nobody) a

-- ---- what passes the door is addressed to a place

on_place : (f : Name → Bool) (ns : List Name) (l : ℕ) → f nobody ≡ false → f (on_link ns l) ≡ true → (i : ℕ) × (eqb l (suc i) ≡ true)
on_place f ns zero n e = absurd (false_true (sym n ∙ e))
on_place f ns (suc i) n e = (i, eq-eqb (suc i) (suc i) refl)

some_called : (m : List ℕ) (ns : List Name) → any_called m ns ≡ true → (i : ℕ) × (is_called m (get_or ns i nobody) ≡ true)
some_called m [] e = absurd (false_true e)
some_called m (x ∷ ns) e = go (is_called m x) refl e (some_called m ns)
  where
    go : (c : Bool) → is_called m x ≡ c → (c || any_called m ns) ≡ true → (any_called m ns ≡ true → (i : ℕ) × (is_called m (get_or ns i nobody) ≡ true))
        → (i : ℕ) × (is_called m (get_or (x ∷ ns) i nobody) ≡ true)
    go true c e r = (0, c)
    go false c e r = let t = r e in (suc t.0, t.1)

-- one that is refused where nobody is addressed is not let through
nobody_not_done : (m : List ℕ) → to_nobody m ≡ Done → ⊥
nobody_not_done m e = false_true (sym (nobody_shut m) ∙ ap (λ (a : Answer). eqb (number_of a) 0) e)

open_rest : (area : List ℕ) (fits : Bool) (rest : Answer) → if_open area fits rest ≡ Done → rest ≡ Done
open_rest area fits rest e = go fits (rung (ltb (length area) 512) AreaTooSmall (cond fits rest NoSuchPanel) Done (λ q. let z : ◌≡◌ {A = ℕ} 1 0 = ap number_of q in omega arith) e).1
  where
    go : (f : Bool) → cond f rest NoSuchPanel ≡ Done → rest ≡ Done
    go true q = q
    go false q = absurd (let z : ◌≡◌ {A = ℕ} 2 0 = ap number_of q in omega arith)

tcp_target : (m area : List ℕ) (fits : Bool) (t : ℕ) → if_open area fits (cond (eqb t 0) (to_nobody m) Done) ≡ Done → (i : ℕ) × (eqb t (suc i) ≡ true)
tcp_target m area fits zero e = absurd (nobody_not_done m (open_rest area fits (to_nobody m) e))
tcp_target m area fits (suc i) e = (i, eq-eqb (suc i) (suc i) refl)

pub meets : (ns : List Name) (m : Message) → door ns m ≡ Done → (i : ℕ) × (addressed ns m i ≡ true)
unfolding addressed target door
meets ns (rs232c l m area) d = on_place is_w ns l refl (door_passed {l = l} {area = area} ns (by_rs232c m) d).link_fits
meets ns (kjw l m area) d = on_place is_k ns l refl (door_passed {l = l} {area = area} ns (by_kjw m) d).link_fits
meets ns (tcp l m area) d = tcp_target m area (is_w (on_link ns l)) (by_tcp ns l m) d
meets ns (udp m) d = go (any_called m ns) refl d
  where
    go : (c : Bool) → any_called m ns ≡ c → cond c Done (to_nobody m) ≡ Done → (i : ℕ) × (is_called m (get_or ns i nobody) ≡ true)
    go true c e = some_called m ns c
    go false c e = absurd (nobody_not_done m e)
