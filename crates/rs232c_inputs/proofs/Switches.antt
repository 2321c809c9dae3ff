-- What OFF leaves of the ten connectors: a good 22h names one of them, and whether all others are OFF is asked of each in turn.
use mathlib.Core.Path.{◌≡◌, refl, sym, ◌∙◌}
use mathlib.Core.Bool.{Bool, true, false, cond, ◌||◌}
use mathlib.Core.List.{List, [], ◌∷◌}
use Prim.Native.Nat.{ℕ, zero, suc, ◌<◌}
use native.Mathlib.Omega.{arith}
use lib.Dec.{eqb}
use lib.ListN.{length, get_or, set}
use lib.Seq.{get_or-set_same, get_or-set_other}
use borrow.Author.Tests.{eqb-true, eqb-false, eq-eqb, ne_eqb}
use Rattle.laws.specs.Lists.{every, listed}
use Rattle.laws.proofs.Conditions.{false_true, and_first, and_second, and_both}
use Rattle.panels.specs.Records.{connectors}
use Rattle.rs232c_inputs.specs.Inputs.{place_in, place_of, turned_off}
use Rattle.rs232c_asks.specs.Commands.{connector_of, act_of, select_good}

-- a listed code has its place in the table
place_in_lem : (cs : List ℕ) (code : ℕ) → listed cs code ≡ true → place_in cs code < length cs
place_in_lem [] code e = absurd (false_true e)
place_in_lem (c ∷ cs) code e = go (eqb code c) e (place_in_lem cs code)
  where
    go : (b : Bool) → (b || listed cs code) ≡ true → (listed cs code ≡ true → place_in cs code < length cs) → cond b 0 (suc (place_in cs code)) < suc (length cs)
    go true e p = omega arith
    go false e p = let h = p e in omega arith

-- "an unlisted connector with act 1 or 2: 6": one that passed has its place among the ten
pub place_good : (byte : ℕ) → (act_of byte ≡ 3 → ⊥) → select_good byte ≡ true → place_of (connector_of byte) < 10
unfolding select_good place_of
place_good byte n e = place_in_lem connectors (connector_of byte) (go (eqb (act_of byte) 0) (rw (ne_eqb (act_of byte) 3 n) at e))
  where
    go : (b : Bool) → cond b false (listed connectors (connector_of byte)) ≡ true → listed connectors (connector_of byte) ≡ true
    go true e = absurd (false_true e)
    go false e = e

-- "Act 0 [..]: 6."
pub act_good : (byte : ℕ) → select_good byte ≡ true → act_of byte ≡ 0 → ⊥
unfolding select_good
act_good byte g e = false_true (rw e at g)

-- all are OFF where each is
each_off : (l : List ℕ) (k : ℕ) → every (eqb 0) l ≡ true → get_or l k 0 ≡ 0
each_off [] k e = refl
each_off (x ∷ l) zero e = sym (eqb-true 0 x (and_first (eqb 0 x) (every (eqb 0) l) e))
each_off (x ∷ l) (suc k) e = each_off l k (and_second (eqb 0 x) (every (eqb 0) l) e)

all_off : (l : List ℕ) → ((k : ℕ) → get_or l k 0 ≡ 0) → every (eqb 0) l ≡ true
all_off [] h = refl
all_off (x ∷ l) h = and_both (eqb 0 x) (every (eqb 0) l) (eq-eqb 0 x (sym (h 0))) (all_off l (λ k. h (suc k)))

-- OFF touches its own place alone
pub off_other : (on : List ℕ) (place k : ℕ) → (k ≡ place → ⊥) → get_or (turned_off on place) k 0 ≡ get_or on k 0
unfolding turned_off
off_other on place k n = go (every (eqb 0) (set on place 0))
  where
    go : (b : Bool) → get_or (cond b on (set on place 0)) k 0 ≡ get_or on k 0
    go true = refl
    go false = get_or-set_other on place k 0 0 n

module _ (on : List ℕ) (place : ℕ) (inside : place < length on) where
  -- its place is OFF where another is not
  pub off_done : (k : ℕ) → (k ≡ place → ⊥) → (get_or on k 0 ≡ 0 → ⊥) → get_or (turned_off on place) place 0 ≡ 0
  unfolding turned_off
  off_done k n h = go (every (eqb 0) (set on place 0)) refl
    where
      go : (b : Bool) → every (eqb 0) (set on place 0) ≡ b → get_or (cond b on (set on place 0)) place 0 ≡ 0
      go true e = absurd (h (sym (get_or-set_other on place k 0 0 n) ∙ each_off (set on place 0) k e))
      go false e = get_or-set_same on place 0 0 inside

  -- all stay as they are where all others are OFF
  pub off_last : ((k : ℕ) → (k ≡ place → ⊥) → get_or on k 0 ≡ 0) → turned_off on place ≡ on
  unfolding turned_off
  off_last h = rw (all_off (set on place 0) (λ k. go k (eqb k place) refl))
    where
      go : (k : ℕ) (b : Bool) → eqb k place ≡ b → get_or (set on place 0) k 0 ≡ 0
      go k true e = rw (eqb-true k place e) (get_or-set_same on place 0 0 inside)
      go k false e = let n = eqb-false k place e in get_or-set_other on place k 0 0 n ∙ h k n
