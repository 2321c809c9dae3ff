-- A connector's place by the library's search is its place in the table: both are the number of codes before the first that is it.
use mathlib.Core.Path.{◌≡◌, refl}
use mathlib.Core.Bool.{Bool, true, false, cond, not}
use mathlib.Core.List.{List, [], ◌∷◌}
use Prim.Native.Nat.{ℕ, suc, ◌+◌, ◌%◌, ◌≤◌}
use native.Mathlib.Omega.{arith}
use lib.Dec.{eqb, ltb}
use lib.ListN.{length, get_or, set, get_or-eq_default}
use lib.Seq.{set_out}
use borrow.Author.Tests.{ltb-false, ne_eqb}
use Rattle.std.specs.Prelude.{Some, None}
use Rattle.std.specs.List.{position, position_or_len}
use Rattle.std.proofs.lemmas.List.Sums.{prefix_len-le-length}
use Rattle.laws.specs.Lists.{every}
use Rattle.panels.specs.Records.{connectors}
use Rattle.panels.specs.declared.Inputs.{Inputs}
use Rattle.rs232c_inputs.specs.Inputs.{place_in, place_of, used_after, turned_off}
use Rattle.rs232c_inputs.specs.Places.{placed}

place_is : (cs : List ℕ) (code : ℕ) → place_in cs code ≡ position_or_len (eqb code) cs
place_is [] code = refl
place_is (c ∷ cs) code = go (eqb code c) (place_is cs code)
  where
    go : (b : Bool) → place_in cs code ≡ position_or_len (eqb code) cs → cond b 0 (suc (place_in cs code)) ≡ cond (not b) (1 + position_or_len (eqb code) cs) 0
    go true e = refl
    go false e = omega arith

found_in : (cs : List ℕ) (code place : ℕ) → position (eqb code) cs ≡ Some place → place_in cs code ≡ place
found_in cs code place = rw (← place_is cs code) (go (ltb (place_in cs code) (length cs)))
  where
    go : (b : Bool) → cond b (Some (place_in cs code)) None ≡ Some place → place_in cs code ≡ place
    go true e = cc
    go false e = absurd (cc)

none_in : (cs : List ℕ) (code : ℕ) → position (eqb code) cs ≡ None → place_in cs code ≡ length cs
none_in cs code = let h = prefix_len-le-length (λ (c : ℕ). not (eqb code c)) cs in rw (← place_is cs code) (go (ltb (place_in cs code) (length cs)) refl (rw (← place_is cs code) at h))
  where
    go : (b : Bool) → ltb (place_in cs code) (length cs) ≡ b → place_in cs code ≤ length cs → cond b (Some (place_in cs code)) None ≡ None → place_in cs code ≡ length cs
    go true e h f = absurd (cc)
    go false e h f = let k = ltb-false (place_in cs code) (length cs) e in omega arith

pub found : (code place : ℕ) → placed code ≡ Some place → place_of code ≡ place
unfolding place_of
found = found_in connectors

pub unlisted : (code : ℕ) → placed code ≡ None → place_of code ≡ 10
unfolding place_of
unlisted = none_in connectors

-- behind the ten connectors there is none that is ON
pub behind : (on : List ℕ) (code : ℕ) → length on ≡ 10 → placed code ≡ None → get_or on (place_of code) 0 ≡ 0
behind on code l e = rw (unlisted code e) (get_or-eq_default on 0 (omega arith))

pub none_set : (on : List ℕ) (code v : ℕ) → length on ≡ 10 → placed code ≡ None → set on (place_of code) v ≡ on
none_set on code v l e = set_out on (place_of code) v (let n = unlisted code e in omega arith)

pub none_off : (on : List ℕ) (code : ℕ) → length on ≡ 10 → placed code ≡ None → turned_off on (place_of code) ≡ on
unfolding turned_off
none_off on code l e = rw (none_set on code 0 l e) (go (every (eqb 0) on))
  where
    go : (b : Bool) → cond b on on ≡ on
    go true = refl
    go false = refl

-- 21h, the connector marked: it is in use where it is ON, and one that is not listed is nowhere ON
module _ (marks byte : ℕ) (i : Inputs) (marked : marks % 2 ≡ 1) where
  pub used_on : (place : ℕ) → placed (byte % 16) ≡ Some place → get_or i.on place 0 ≡ 1 → used_after marks byte i ≡ byte % 16
  unfolding used_after
  used_on place p e = rw (marked, found (byte % 16) place p, e)

  pub used_off : (place : ℕ) → placed (byte % 16) ≡ Some place → (get_or i.on place 0 ≡ 1 → ⊥) → used_after marks byte i ≡ i.used
  unfolding used_after
  used_off place p n = rw (marked, found (byte % 16) place p, ne_eqb (get_or i.on place 0) 1 n)

  pub used_unlisted : length i.on ≡ 10 → placed (byte % 16) ≡ None → used_after marks byte i ≡ i.used
  unfolding used_after
  used_unlisted l p = rw (marked, behind i.on (byte % 16) l p)

-- for `used_after`, and for `on_after`
pub ruleset in_use = (used_on, used_off, used_unlisted)

pub ruleset placing = (found, none_set, none_off)
