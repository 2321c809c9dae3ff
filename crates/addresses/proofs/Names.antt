-- What a panel is called by says its family; a panel of another family than W has no pair and is not called.
use Prim.Native.Nat.{ℕ, zero, suc, ◌-◌}
use mathlib.Core.Path.{◌≡◌, refl, sym, ap, ◌∙◌}
use mathlib.Core.Bool.{Bool, true, false, cond, ◌&&◌}
use mathlib.Core.List.{List, map}
use native.Mathlib.Omega.{arith}
use lib.Dec.{eqb}
use lib.ListN.{get_or, get_or-map}
use borrow.Author.Tests.{ne_eqb, eqb-true, le-leb}
use Rattle.std.specs.Cmp.{nat_eq_equiv}
use Rattle.terms.specs.declared.GroupId.{GroupId}
use Rattle.terms.specs.declared.UnitId.{UnitId}
use Rattle.panels.specs.Records.{family_w, family_k}
use Rattle.box_rules.specs.Pairs.{no_ids}
use Rattle.box_rules.specs.declared.Ids.{Ids}
use Rattle.steps.specs.Messages.{Name, nobody, a_w, a_k, on_link, is_w, is_k}
use Rattle.steps.specs.Addressing.{is_pair, is_called}
use Rattle.addresses.specs.Doors.{id_name, family_on, family_by, is_of}
use Rattle.addresses.specs.declared.Line.{Line}
use Rattle.addresses.specs.declared.Line.TheVariants.{Rs232c, Kjw, Tcp}

other : (f : Name → Bool) → f nobody ≡ false → f a_k ≡ false → (p : Ids) → (p.family ≡ family_w → ⊥) → f (id_name p) ≡ false
unfolding id_name
other f x y p n = rw (ne_eqb p.family family_w n) (go (eqb p.family family_k))
  where
    go : (b : Bool) → f (cond b a_k nobody) ≡ false
    go true = y
    go false = x

pub call_other : (p : Ids) (m : List ℕ) → (p.family ≡ family_w → ⊥) → is_called m (id_name p) ≡ false
unfolding is_called
call_other p m n = other (is_called m) refl refl p n

-- a panel has the pair where it is called as a W panel with that pair
pub pair_is : (p : Ids) (g : GroupId) (u : UnitId) → (eqb p.family family_w && (eqb p.group.0 g.0 && eqb p.unit.0 u.0)) ≡ is_pair g u (id_name p)
unfolding id_name is_pair
pair_is p g u = go (eqb p.family family_w) (eqb p.family family_k)
  where
    go : (a c : Bool) → (a && (eqb p.group.0 g.0 && eqb p.unit.0 u.0)) ≡ is_pair g u (cond a (a_w p.group p.unit) (cond c a_k nobody))
    go true c = rw (nat_eq_equiv.symm p.group.0 g.0, nat_eq_equiv.symm p.unit.0 u.0)
    go false true = refl
    go false false = refl

-- the family, read off the name
family_w_lem : (p : Ids) → is_w (id_name p) ≡ eqb p.family family_w
unfolding id_name
family_w_lem p = go (eqb p.family family_w) (eqb p.family family_k)
  where
    go : (a c : Bool) → is_w (cond a (a_w p.group p.unit) (cond c a_k nobody)) ≡ a
    go true c = refl
    go false true = refl
    go false false = refl

family_k_lem : (p : Ids) → is_k (id_name p) ≡ eqb p.family family_k
unfolding id_name
family_k_lem p = go (eqb p.family family_w) refl (eqb p.family family_k) refl
  where
    go : (a : Bool) → eqb p.family family_w ≡ a → (c : Bool) → eqb p.family family_k ≡ c → is_k (cond a (a_w p.group p.unit) (cond c a_k nobody)) ≡ c
    go true e true f = let x = eqb-true p.family family_w e in let y = eqb-true p.family family_k f in absurd (omega arith)
    go true e false f = refl
    go false e true f = refl
    go false e false f = refl

family_is : (line : Line) (p : Ids) → is_of line (id_name p) ≡ eqb p.family (family_by line)
family_is Rs232c p = family_w_lem p
family_is Kjw p = family_k_lem p
family_is Tcp p = family_w_lem p

-- no panel is of no family
pub nobody_of : (line : Line) → is_of line nobody ≡ false
nobody_of Rs232c = refl
nobody_of Kjw = refl
nobody_of Tcp = refl

no_family : (line : Line) → eqb 0 (family_by line) ≡ false
no_family Rs232c = refl
no_family Kjw = refl
no_family Tcp = refl

named : (ids : List Ids) (i : ℕ) → get_or (map id_name ids) i nobody ≡ id_name (get_or ids i no_ids)
unfolding id_name
named ids i = get_or-map id_name ids i no_ids

pub on_link_lem : (line : Line) (ids : List Ids) (l : ℕ) → is_of line (on_link (map id_name ids) l) ≡ eqb (family_on ids l) (family_by line)
unfolding family_on
on_link_lem line ids zero = nobody_of line ∙ sym (no_family line)
on_link_lem line ids (suc i) =
    let one : suc i - 1 ≡ i = omega arith in
    rw (le-leb 1 (suc i) (omega arith), one) (ap (is_of line) (named ids i) ∙ family_is line (get_or ids i no_ids))

-- the panel on a link stands at the place before it
pub on_place : (line : Line) (ids : List Ids) (l i : ℕ) (p : Ids) → suc i ≡ l → p ≡ get_or ids i no_ids → is_of line (on_link (map id_name ids) l) ≡ eqb p.family (family_by line)
unfolding family_on
on_place line ids l i p e q =
    let one : suc i - 1 ≡ i = omega arith in
    rw (← e) (on_link_lem line ids (suc i) ∙ rw (le-leb 1 (suc i) (omega arith), one, q))
