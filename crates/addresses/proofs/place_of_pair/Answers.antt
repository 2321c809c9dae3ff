-- The place of the first panel with the pair is one less than its number.
use Rattle.std.proofs.Common.{◌≡◌, ℕ, suc, ◌+◌, Bool, true, false, not, cond, List, [], ◌∷◌, map, length, ltb, Some, None, refl, ap, ◌∙◌, rules, arith}
use borrow.Author.Tests.{lt-ltb, le-ltb, ltb-true, ltb-false}
use Rattle.std.specs.List.{position, position_or_len}
use Rattle.std.proofs.lemmas.Iterator.{YieldsList-from_slice}
use Rattle.std.proofs.lemmas.Iterator.Search.{position_from_yields_List}
use Rattle.terms.specs.declared.GroupId.{GroupId}
use Rattle.terms.specs.declared.UnitId.{UnitId}
use Rattle.box_rules.specs.declared.Ids.{Ids}
use Rattle.steps.specs.Addressing.{is_pair, pair_number}
use Rattle.addresses.specs.Doors.{id_name, numbered}
use Rattle.addresses.proofs.place_of_pair.Goals as goal

ltb_both : (a b : ℕ) → ltb (1 + a) (suc b) ≡ ltb a b
ltb_both a b = go (ltb a b) refl
  where
    go : (t : Bool) → ltb a b ≡ t → ltb (1 + a) (suc b) ≡ t
    go true e = lt-ltb (1 + a) (suc b) (omega (arith, ltb-true a b e))
    go false e = le-ltb (1 + a) (suc b) (omega (arith, ltb-false a b e))

module _ (g : GroupId) (u : UnitId) where
  abbrev asked : Ids → Bool
  asked p = is_pair g u (id_name p)

  -- x is the number that the place would have
  number : (n : ℕ) (ids : List Ids) (x : ℕ) → x ≡ suc (n + position_or_len asked ids) → cond (ltb (position_or_len asked ids) (length ids)) x 0 ≡ pair_number g u (suc n) (map id_name ids)
  unfolding pair_number
  number n [] x e = refl
  number n (p ∷ ids) x e = go (asked p) (number (suc n) ids) e
    where
      go : (b : Bool) → ((y : ℕ) → y ≡ suc (suc n + position_or_len asked ids) → cond (ltb (position_or_len asked ids) (length ids)) y 0 ≡ pair_number g u (suc (suc n)) (map id_name ids)) → x ≡ suc (n + cond (not b) (1 + position_or_len asked ids) 0) → cond (ltb (cond (not b) (1 + position_or_len asked ids) 0) (suc (length ids))) x 0 ≡ cond b (suc n) (pair_number g u (suc (suc n)) (map id_name ids))
      go true r f = rw (lt-ltb 0 (suc (length ids)) (omega arith)) (omega (arith, f))
      go false r f = rw (ltb_both (position_or_len asked ids) (length ids)) (r x (omega (arith, f)))

  numbered_place : (ids : List Ids) → numbered (position asked ids) ≡ pair_number g u 1 (map id_name ids)
  numbered_place ids = go (ltb (position_or_len asked ids) (length ids)) ∙ number 0 ids (suc (position_or_len asked ids)) (omega arith)
    where
      go : (b : Bool) → numbered (cond b (Some (position_or_len asked ids)) None) ≡ cond b (suc (position_or_len asked ids)) 0
      go true = refl
      go false = refl

pub returns : goal.returns
returns c =
    let a = c.args in
    ap numbered (position_from_yields_List (asked a.group a.unit) _ _ _ c.position.ensures.ran (YieldsList-from_slice a.ids cc) (λ x b q k. search rules))
    ∙ numbered_place a.group a.unit a.ids
