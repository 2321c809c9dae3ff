-- What is said of the inputs after 21h and 22h is enough: inputs of which it is said are the same, part by part.
use Prim.Native.Nat.{ℕ, zero, suc, ◌<◌, ◌≤◌}
use mathlib.Core.Path.{◌≡◌, refl, sym, ap, ◌∙◌}
use mathlib.Core.Bool.{Bool, true, false, ◌&&◌}
use mathlib.Core.List.{List, [], ◌∷◌}
use native.Mathlib.Omega.{arith}
use lib.Dec.{eqb}
use lib.ListN.{get_or, set}
use lib.Seq.{get_or-set_other}
use borrow.Author.Tests.{eqb-true, eqb-false}
use Rattle.laws.specs.Lists.{every}
use Rattle.laws.proofs.Conditions.{and_first, and_second, false_true}
use Rattle.panels.specs.declared.Inputs.{Inputs}
use Rattle.rs232c_asks.specs.Commands.{connector_marked, preset_marked, connector_of, act_of}
use Rattle.rs232c_inputs.specs.Inputs.{place_of}
use Rattle.rs232c.proofs.AskedBack.{Configured, Selected}

-- ---- 21h: the inputs are what `config_kept` says in one way alone

pub configured_one : (marks byte : ℕ) (i i' i'' : Inputs) → Configured marks byte i i' → Configured marks byte i i''
    → (i'.used ≡ i''.used) × (i'.preset ≡ i''.preset) × (i'.on ≡ i''.on)
configured_one marks byte i i' i'' p q = (used (connector_marked marks) refl (eqb (get_or i.on (place_of (connector_of byte)) 0) 1) refl, preset (preset_marked marks) refl, p.switches_stay ∙ sym q.switches_stay)
  where
    used : (m : Bool) → connector_marked marks ≡ m → (o : Bool) → eqb (get_or i.on (place_of (connector_of byte)) 0) 1 ≡ o → i'.used ≡ i''.used
    used true m true o = let z = eqb-true _ _ o in p.connector_on m z ∙ sym (q.connector_on m z)
    used true m false o = let z = eqb-false _ _ o in p.connector_off m z ∙ sym (q.connector_off m z)
    used false m o e = p.connector_unmarked m ∙ sym (q.connector_unmarked m)

    preset : (m : Bool) → preset_marked marks ≡ m → i'.preset ≡ i''.preset
    preset true m = p.preset_marked_holds m ∙ sym (q.preset_marked_holds m)
    preset false m = p.preset_unmarked m ∙ sym (q.preset_unmarked m)

-- ---- 22h: the inputs are what `select_stands` says in one way alone, place by place

none_set : (l : List ℕ) (p : ℕ) → get_or (set l p 0) p 0 ≡ 0
none_set [] p = refl
none_set (x ∷ l) zero = refl
none_set (x ∷ l) (suc p) = none_set l p

all_none : (l : List ℕ) → every (eqb 0) l ≡ true → (k : ℕ) → get_or l k 0 ≡ 0
all_none [] e k = refl
all_none (x ∷ l) e zero = sym (eqb-true 0 x (and_first (eqb 0 x) (every (eqb 0) l) e))
all_none (x ∷ l) e (suc k) = all_none l (and_second (eqb 0 x) (every (eqb 0) l) e) k

some_one : (l : List ℕ) → every (eqb 0) l ≡ false → (k : ℕ) × (get_or l k 0 ≡ 0 → ⊥)
some_one [] e = absurd (false_true (sym e))
some_one (x ∷ l) e = go (eqb 0 x) refl e (some_one l)
  where
    go : (t : Bool) → eqb 0 x ≡ t → (t && every (eqb 0) l) ≡ false → (every (eqb 0) l ≡ false → (k : ℕ) × (get_or l k 0 ≡ 0 → ⊥))
        → (k : ℕ) × (get_or (x ∷ l) k 0 ≡ 0 → ⊥)
    go true q f r = let s = r f in (suc s.0, s.1)
    go false q f r = (0, λ z. eqb-false 0 x q (sym z))

module _ (byte : ℕ) (i i' i'' : Inputs) (p : Selected byte i i') (q : Selected byte i i'') where
  abbrev place : ℕ
  place = place_of (connector_of byte)

  -- where OFF is ordered: another is not OFF, or all others are
  off_one : act_of byte ≡ 1 → get_or i'.on place 0 ≡ get_or i''.on place 0
  off_one a = go (every (eqb 0) (set i.on place 0)) refl
    where
      go : (t : Bool) → every (eqb 0) (set i.on place 0) ≡ t → get_or i'.on place 0 ≡ get_or i''.on place 0
      go true e =
          let all : (k : ℕ) → (k ≡ place → ⊥) → get_or i.on k 0 ≡ 0 = λ k n. sym (get_or-set_other i.on place k 0 0 n) ∙ all_none (set i.on place 0) e k in
          ap (λ (l : List ℕ). get_or l place 0) (p.last_stays a all ∙ sym (q.last_stays a all))
      go false e =
          let k = some_one (set i.on place 0) e in
          let apart : k.0 ≡ place → ⊥ = λ z. k.1 (ap (λ (j : ℕ). get_or (set i.on place 0) j 0) z ∙ none_set i.on place) in
          let on : get_or i.on k.0 0 ≡ 0 → ⊥ = λ z. k.1 (get_or-set_other i.on place k.0 0 0 apart ∙ z) in
          p.turned_off_holds a k.0 apart on ∙ sym (q.turned_off_holds a k.0 apart on)

  pub selected_one : (0 < act_of byte) → act_of byte ≤ 3 → (i'.used ≡ i''.used) × (i'.preset ≡ i''.preset) × ((k : ℕ) → get_or i'.on k 0 ≡ get_or i''.on k 0)
  selected_one h l = (p.used_stays ∙ sym q.used_stays, p.preset_stays ∙ sym q.preset_stays, λ k. go k (eqb (act_of byte) 3) refl (eqb k place) refl (eqb (act_of byte) 1) refl)
    where
      go : (k : ℕ) (r : Bool) → eqb (act_of byte) 3 ≡ r → (s : Bool) → eqb k place ≡ s → (o : Bool) → eqb (act_of byte) 1 ≡ o
          → get_or i'.on k 0 ≡ get_or i''.on k 0
      go k true r s e o f = let a = eqb-true (act_of byte) 3 r in ap (λ (x : List ℕ). get_or x k 0) (p.all_on a ∙ sym (q.all_on a))
      go k false r false e o f = let a = eqb-false (act_of byte) 3 r in let n = eqb-false k place e in p.others_stay a k n ∙ sym (q.others_stay a k n)
      go k false r true e true f =
          let z = eqb-true k place e in ap (λ (j : ℕ). get_or i'.on j 0) z ∙ off_one (eqb-true (act_of byte) 1 f) ∙ sym (ap (λ (j : ℕ). get_or i''.on j 0) z)
      go k false r true e false f =
          let z = eqb-true k place e in
          let a = eqb-false (act_of byte) 3 r in
          let n = eqb-false (act_of byte) 1 f in
          let two : act_of byte ≡ 2 = omega (arith, h, l, a, n) in
          ap (λ (j : ℕ). get_or i'.on j 0) z ∙ p.turned_on two ∙ sym (q.turned_on two) ∙ sym (ap (λ (j : ℕ). get_or i''.on j 0) z)
