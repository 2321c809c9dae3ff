-- The number found for a pair is that of a panel with the pair, and of the only one where no two panels share both: the search
-- counts up from where it began.
use mathlib.Core.Path.{◌≡◌, refl, sym, ◌∙◌}
use mathlib.Core.Bool.{Bool, true, false, cond, ◌&&◌}
use mathlib.Core.List.{List, [], ◌∷◌, map}
use Prim.Native.Nat.{ℕ, zero, suc, ◌+◌, ◌<◌}
use native.Mathlib.Omega.{arith}
use lib.Dec.{eqb}
use lib.ListN.{get_or}
use borrow.Author.Tests.{eqb-true, eq-eqb, ne_eqb, not-true}
use Rattle.laws.specs.Lists.{every}
use Rattle.laws.proofs.Conditions.{false_true, and_first, and_second}
use Rattle.terms.specs.declared.GroupId.{GroupId}
use Rattle.terms.specs.declared.UnitId.{UnitId}
use Rattle.panels.specs.Records.{family_w, family_k}
use Rattle.panels.specs.Valid.{share, apart, distinct}
use Rattle.panels.specs.declared.Panel.{Panel}
use Rattle.steps.specs.Messages.{Name, nobody, a_w, a_k, name_of}
use Rattle.steps.specs.Addressing.{is_pair, pair_number}

module _ (g : GroupId) (u : UnitId) where
  -- no number below the first is found
  pub not_before : (n : ℕ) (ns : List Name) (j : ℕ) → 0 < j → j < n → eqb (pair_number g u n ns) j ≡ false
  unfolding pair_number
  not_before n [] j p q = ne_eqb 0 j (λ e. omega arith)
  not_before n (x ∷ ns) j p q = go (is_pair g u x) (not_before (suc n) ns j p (omega arith))
    where
      go : (b : Bool) → eqb (pair_number g u (suc n) ns) j ≡ false → eqb (cond b n (pair_number g u (suc n) ns)) j ≡ false
      go true r = ne_eqb n j (λ e. omega arith)
      go false r = r

  -- and the panel at the number found has the pair
  pub found : (n : ℕ) (ns : List Name) (i j : ℕ) → 0 < n → j ≡ n + i → eqb (pair_number g u n ns) j ≡ true → is_pair g u (get_or ns i nobody) ≡ true
  unfolding pair_number
  found n [] i j p q e = absurd (let z = eqb-true 0 j e in omega arith)
  found n (x ∷ ns) zero j p q e = go (is_pair g u x) (not_before (suc n) ns j (omega arith) (omega arith)) e
    where
      go : (b : Bool) → eqb (pair_number g u (suc n) ns) j ≡ false → eqb (cond b n (pair_number g u (suc n) ns)) j ≡ true → b ≡ true
      go true r e = refl
      go false r e = absurd (false_true (cc))
  found n (x ∷ ns) (suc i) j p q e = go (is_pair g u x) e (found (suc n) ns i j (omega arith) (omega arith))
    where
      go : (b : Bool) → eqb (cond b n (pair_number g u (suc n) ns)) j ≡ true → (eqb (pair_number g u (suc n) ns) j ≡ true → is_pair g u (get_or ns i nobody) ≡ true) → is_pair g u (get_or ns i nobody) ≡ true
      go true e r = absurd (let z = eqb-true n j e in omega arith)
      go false e r = r e

-- where p has the pair, q has it exactly where they share both
shares : (g : GroupId) (u : UnitId) (p q : Panel) → is_pair g u (name_of p) ≡ true → share p q ≡ is_pair g u (name_of q)
unfolding share is_pair name_of
shares g u p q = go (eqb p.family family_w) (eqb p.family family_k) (eqb q.family family_w) (eqb q.family family_k)
  where
    go : (a a' c c' : Bool) → is_pair g u (cond a (a_w p.group p.unit) (cond a' a_k nobody)) ≡ true → (a && c && eqb p.group.0 q.group.0 && eqb p.unit.0 q.unit.0) ≡ is_pair g u (cond c (a_w q.group q.unit) (cond c' a_k nobody))
    go true a' true c' e = rw (eqb-true g.0 p.group.0 (and_first (eqb g.0 p.group.0) (eqb u.0 p.unit.0) e), eqb-true u.0 p.unit.0 (and_second (eqb g.0 p.group.0) (eqb u.0 p.unit.0) e))
    go true a' false true e = refl
    go true a' false false e = refl
    go false true c c' e = absurd (false_true e)
    go false false c c' e = absurd (false_true e)

-- so none of the panels that p is apart from has it
no_other : (g : GroupId) (u : UnitId) (p : Panel) (ps : List Panel) (i : ℕ) → is_pair g u (name_of p) ≡ true → every (apart p) ps ≡ true → is_pair g u (get_or (map name_of ps) i nobody) ≡ false
unfolding is_pair
no_other g u p [] i h e = refl
no_other g u p (q ∷ ps) zero h e = sym (shares g u p q h) ∙ not-true (share p q) (and_first (apart p q) (every (apart p) ps) e)
no_other g u p (q ∷ ps) (suc i) h e = no_other g u p ps i h (and_second (apart p q) (every (apart p) ps) e)

-- the number found is that of the one panel with the pair
pub only_pair : (g : GroupId) (u : UnitId) (n : ℕ) (ps : List Panel) (i j : ℕ) → 0 < n → j ≡ n + i → distinct ps ≡ true → eqb (pair_number g u n (map name_of ps)) j ≡ is_pair g u (get_or (map name_of ps) i nobody)
unfolding pair_number is_pair distinct
only_pair g u n [] i j h e d = ne_eqb 0 j (λ z. omega arith)
only_pair g u n (p ∷ ps) zero j h e d = go (is_pair g u (name_of p))
  where
    go : (t : Bool) → eqb (cond t n (pair_number g u (suc n) (map name_of ps))) j ≡ t
    go true = eq-eqb n j (omega arith)
    go false = not_before g u (suc n) (map name_of ps) j (omega arith) (omega arith)
only_pair g u n (p ∷ ps) (suc i) j h e d = go (is_pair g u (name_of p)) refl (only_pair g u (suc n) ps i j (omega arith) (omega arith) (and_second (every (apart p) ps) (distinct ps) d))
  where
    go : (t : Bool) → is_pair g u (name_of p) ≡ t → eqb (pair_number g u (suc n) (map name_of ps)) j ≡ is_pair g u (get_or (map name_of ps) i nobody) → eqb (cond t n (pair_number g u (suc n) (map name_of ps))) j ≡ is_pair g u (get_or (map name_of ps) i nobody)
    go true t r = ne_eqb n j (λ z. omega arith) ∙ sym (no_other g u p ps i t (and_first (every (apart p) ps) (distinct ps) d))
    go false t r = r
