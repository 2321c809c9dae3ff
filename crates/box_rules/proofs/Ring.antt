-- Eight numbers in a ring are all different where none is like those one to four places on: any two of them are that near, one way round or the other. And two places have the same number only where two W panels share their pair.
use Prim.Native.Nat.{ℕ, zero, suc, ◌+◌, ◌-◌, ◌<◌, ◌≤◌}
use mathlib.Core.Path.{◌≡◌, refl, sym, ap, subst, ◌∙◌}
use mathlib.Core.Bool.{Bool, true, false, cond, not, ◌&&◌}
use mathlib.Core.List.{List, [], ◌∷◌, ◌++◌, map}
use lib.Dec.{T, eqb, leb}
use lib.ListN.{length, get_or, set, replicate, length-set, length-map, get_or-map}
use lib.Seq.{get_or-set_same, get_or-set_other}
use borrow.Author.Tests.{eqb-true, eqb-false, eq-eqb, ne_eqb, leb-true, leb-false, not-true}
use native.Mathlib.Omega.{arith}
use Rattle.laws.specs.Lists.{every, every_below}
use Rattle.laws.specs.Numbers.{number}
use Rattle.laws.proofs.Conditions.{and_first, and_second, and_both, false_true}
use Rattle.laws.proofs.Lists.{every_at}
use Rattle.laws.proofs.Table.{below}
use Rattle.panels.specs.Records.{family_w, family_k}
use Rattle.panels.specs.Valid.{ok_w, ok_k, ok_ids, zero_ids, ok_family, ok_panel, share, apart, distinct}
use Rattle.box_rules.specs.Pairs.{ids_of, no_ids, bare}
use Rattle.box_rules.specs.Ring.{pair_at, Rings, apart_by, all_apart}
use Rattle.box_rules.specs.declared.Ids.{Ids}
use Rattle.panels.specs.declared.Panel.{Panel}

-- ---- a ring is laid

abbrev empty : List ℕ
empty = 0 ∷ 1 ∷ 2 ∷ 3 ∷ 4 ∷ 5 ∷ 6 ∷ 7 ∷ 0 ∷ 1 ∷ 2 ∷ 3 ∷ 4 ∷ 5 ∷ 6 ∷ 7 ∷ []

-- without a panel each place has its own number
pub rings_none : Rings (replicate 8 no_ids) empty
rings_none zero h = (refl, refl)
rings_none (suc zero) h = (refl, refl)
rings_none (suc (suc zero)) h = (refl, refl)
rings_none (suc (suc (suc zero))) h = (refl, refl)
rings_none (suc (suc (suc (suc zero)))) h = (refl, refl)
rings_none (suc (suc (suc (suc (suc zero))))) h = (refl, refl)
rings_none (suc (suc (suc (suc (suc (suc zero)))))) h = (refl, refl)
rings_none (suc (suc (suc (suc (suc (suc (suc zero))))))) h = (refl, refl)
rings_none (suc (suc (suc (suc (suc (suc (suc (suc k)))))))) h = absurd (omega arith)

-- one panel more is laid at its place
pub rings_set : (ids : List Ids) (ring : List ℕ) (i x : ℕ) (d : Ids) → Rings ids ring → length ids ≡ 8 → length ring ≡ 16 → i < 8 → x ≡ pair_at d i → Rings (set ids i d) (set (set ring i x) (i + 8) x)
rings_set ids ring i x d r e f h p k q = go (eqb k i) refl
  where
    go : (b : Bool) → eqb k i ≡ b → (get_or (set (set ring i x) (i + 8) x) k 0 ≡ pair_at (get_or (set ids i d) k no_ids) k) × (get_or (set (set ring i x) (i + 8) x) (k + 8) 0 ≡ pair_at (get_or (set ids i d) k no_ids) k)
    go true t =
        let s : k ≡ i = eqb-true k i t in
        let one : get_or (set (set ring i x) (i + 8) x) i 0 ≡ pair_at (get_or (set ids i d) i no_ids) i =
        get_or-set_other (set ring i x) (i + 8) i x 0 (λ (z : i ≡ i + 8). absurd (omega arith)) ∙ get_or-set_same ring i x 0 (omega arith) ∙ p ∙ sym (ap (λ (y : Ids). pair_at y i) (get_or-set_same ids i d no_ids (omega arith))) in
        let two : get_or (set (set ring i x) (i + 8) x) (i + 8) 0 ≡ pair_at (get_or (set ids i d) i no_ids) i =
        get_or-set_same (set ring i x) (i + 8) x 0 (simp length-set (omega arith)) ∙ p ∙ sym (ap (λ (y : Ids). pair_at y i) (get_or-set_same ids i d no_ids (omega arith))) in
        rw s (one, two)
    go false t =
        let s : k ≡ i → ⊥ = eqb-false k i t in
        let y : get_or (set ids i d) k no_ids ≡ get_or ids k no_ids = get_or-set_other ids i k d no_ids s in (
          get_or-set_other (set ring i x) (i + 8) k x 0 (λ (z : k ≡ i + 8). absurd (omega arith)) ∙ get_or-set_other ring i k x 0 s ∙ (r k q).0 ∙ sym (ap (λ (z : Ids). pair_at z k) y),
          get_or-set_other (set ring i x) (i + 8) (k + 8) x 0 (λ (z : k + 8 ≡ i + 8). s (omega arith)) ∙ get_or-set_other ring i (k + 8) x 0 (λ (z : k + 8 ≡ i). absurd (omega arith)) ∙ (r k q).1 ∙ sym (ap (λ (z : Ids). pair_at z k) y),
        )

-- ---- a ring is asked

-- what is said of each number below n is said of every one
below_all : (n : ℕ) (f : ℕ → Bool) → ((k : ℕ) → k < n → f k ≡ true) → every_below n f ≡ true
below_all zero f a = refl
below_all (suc n) f a = and_both (f n) (every_below n f) (a n (omega arith)) (below_all n f (λ k h. a k (omega arith)))

-- no two of the eight have the same number
abbrev Differ : List Ids → Type 0
Differ ids = (i j : ℕ) → i < j → j < 8 → pair_at (get_or ids i no_ids) i ≡ pair_at (get_or ids j no_ids) j → ⊥

module _ (ids : List Ids) (ring : List ℕ) (r : Rings ids ring) where
  -- d places on from k, round the ring
  on : (k d : ℕ) → apart_by ring d ≡ true → k < 8 → get_or ring k 0 ≡ get_or ring (k + d) 0 → ⊥
  on k d e h s = subst T (ap not (eq-eqb _ _ s)) (below 8 (λ (k : ℕ). not (eqb (get_or ring k 0) (get_or ring (k + d) 0))) (subst T (sym e) tt) k h)

  -- two places are d apart: straight on from i, or from j over the end of the ring
  straight : (i j d : ℕ) → apart_by ring d ≡ true → i + d ≡ j → j < 8 → pair_at (get_or ids i no_ids) i ≡ pair_at (get_or ids j no_ids) j → ⊥
  straight i j d e h k s = on i d e (omega arith) ((r i (omega arith)).0 ∙ s ∙ sym (r j k).0 ∙ ap (λ (m : ℕ). get_or ring m 0) (sym h))

  over : (i j d : ℕ) → apart_by ring d ≡ true → j + d ≡ i + 8 → i < j → j < 8 → pair_at (get_or ids i no_ids) i ≡ pair_at (get_or ids j no_ids) j → ⊥
  over i j d e h l k s = on j d e k ((r j k).0 ∙ sym s ∙ sym (r i (omega arith)).1 ∙ ap (λ (m : ℕ). get_or ring m 0) (sym h))

  asked_differ : all_apart ring ≡ true → Differ ids
  asked_differ e i j l k s = near (j - i) refl
    where
      three : (apart_by ring 1 && apart_by ring 2 && apart_by ring 3) ≡ true
      three = and_first _ (apart_by ring 4) e

      two : (apart_by ring 1 && apart_by ring 2) ≡ true
      two = and_first _ (apart_by ring 3) three

      e₁ : apart_by ring 1 ≡ true
      e₁ = and_first _ (apart_by ring 2) two

      e₂ : apart_by ring 2 ≡ true
      e₂ = and_second (apart_by ring 1) _ two

      e₃ : apart_by ring 3 ≡ true
      e₃ = and_second (apart_by ring 1 && apart_by ring 2) _ three

      e₄ : apart_by ring 4 ≡ true
      e₄ = and_second (apart_by ring 1 && apart_by ring 2 && apart_by ring 3) _ e

      near : (d : ℕ) → j - i ≡ d → ⊥
      near zero h = omega arith
      near (suc zero) h = straight i j 1 e₁ (omega arith) k s
      near (suc (suc zero)) h = straight i j 2 e₂ (omega arith) k s
      near (suc (suc (suc zero))) h = straight i j 3 e₃ (omega arith) k s
      near (suc (suc (suc (suc zero)))) h = straight i j 4 e₄ (omega arith) k s
      near (suc (suc (suc (suc (suc zero))))) h = over i j 3 e₃ (omega arith) l k s
      near (suc (suc (suc (suc (suc (suc zero)))))) h = over i j 2 e₂ (omega arith) l k s
      near (suc (suc (suc (suc (suc (suc (suc zero))))))) h = over i j 1 e₁ (omega arith) l k s
      near (suc (suc (suc (suc (suc (suc (suc (suc d)))))))) h = omega arith

  differ_by : Differ ids → (d : ℕ) → 1 ≤ d → d ≤ 4 → apart_by ring d ≡ true
  differ_by a d h l = below_all 8 (λ (k : ℕ). not (eqb (get_or ring k 0) (get_or ring (k + d) 0))) (λ k q. ap not (ne_eqb _ _ (other k q (leb 8 (k + d)) refl)))
    where
      other : (k : ℕ) → k < 8 → (b : Bool) → leb 8 (k + d) ≡ b → get_or ring k 0 ≡ get_or ring (k + d) 0 → ⊥
      other k q true t s =
          let u : 8 ≤ k + d = leb-true 8 (k + d) t in
          let m : k + d ≡ k + d - 8 + 8 = omega arith in
          a (k + d - 8) k (omega arith) q (sym (r (k + d - 8) (omega arith)).1 ∙ ap (λ (n : ℕ). get_or ring n 0) (sym m) ∙ sym s ∙ (r k q).0)
      other k q false t s =
          let u : k + d < 8 = leb-false 8 (k + d) t in
          a k (k + d) (omega arith) u (sym (r k q).0 ∙ s ∙ (r (k + d) u).0)

  differ_asked : Differ ids → all_apart ring ≡ true
  differ_asked a =
      let two = and_both (apart_by ring 1) (apart_by ring 2) (differ_by a 1 (omega arith) (omega arith)) (differ_by a 2 (omega arith) (omega arith)) in
      let three = and_both (apart_by ring 1 && apart_by ring 2) (apart_by ring 3) two (differ_by a 3 (omega arith) (omega arith)) in
      and_both (apart_by ring 1 && apart_by ring 2 && apart_by ring 3) (apart_by ring 4) three (differ_by a 4 (omega arith) (omega arith))

-- ---- the same number and the same pair

-- the IDs of a W panel that keeps the rules
abbrev pub Named : Ids → Type 0
Named d = d.family ≡ family_w → (1 ≤ d.group.0) × ((d.group.0 ≤ 99) × (d.unit.0 ≤ 99))

-- two W panels that share their pair have the same number
shared_same : (a b : Ids) (i j : ℕ) → share (bare a) (bare b) ≡ true → pair_at a i ≡ pair_at b j
unfolding share
shared_same a b i j e =
    let three = and_first (eqb a.family family_w && eqb b.family family_w && eqb a.group.0 b.group.0) _ e in
    let two = and_first (eqb a.family family_w && eqb b.family family_w) _ three in
    let g : a.group.0 ≡ b.group.0 = eqb-true _ _ (and_second (eqb a.family family_w && eqb b.family family_w) _ three) in
    let u : a.unit.0 ≡ b.unit.0 = eqb-true _ _ (and_second (eqb a.family family_w && eqb b.family family_w && eqb a.group.0 b.group.0) _ e) in
    rw (and_first (eqb a.family family_w) _ two, and_second (eqb a.family family_w) _ two, g, u) refl

-- two places have the same number only so
same_shared : (a b : Ids) (i j : ℕ) → Named a → Named b → i < j → j < 8 → pair_at a i ≡ pair_at b j → share (bare a) (bare b) ≡ true
unfolding share number
same_shared a b i j m n l k = go (eqb a.family family_w) refl (eqb b.family family_w) refl
  where
    go : (p : Bool) → eqb a.family family_w ≡ p → (q : Bool) → eqb b.family family_w ≡ q → cond p (number (a.group.0 ∷ a.unit.0 ∷ [])) i ≡ cond q (number (b.group.0 ∷ b.unit.0 ∷ [])) j → (p && q && eqb a.group.0 b.group.0 && eqb a.unit.0 b.unit.0) ≡ true
    go true s true t e =
        let x = m (eqb-true a.family family_w s) in
        let y = n (eqb-true b.family family_w t) in
        and_both (eqb a.group.0 b.group.0) (eqb a.unit.0 b.unit.0) (eq-eqb a.group.0 b.group.0 (omega arith)) (eq-eqb a.unit.0 b.unit.0 (omega arith))
    go true s false t e = let x = m (eqb-true a.family family_w s) in absurd (omega arith)
    go false s true t e = let y = n (eqb-true b.family family_w t) in absurd (omega arith)
    go false s false t e = absurd (omega arith)

-- what good panels are called by, and places without a panel
pub named : (l : List Panel) (n k : ℕ) → every ok_panel l ≡ true → Named (get_or (map ids_of l ++ replicate n no_ids) k no_ids)
unfolding ok_panel ok_family ok_ids
named [] zero k e f = absurd (omega arith)
named [] (suc n) zero e f = absurd (omega arith)
named [] (suc n) (suc k) e f = named [] n k e f
named (p ∷ l) n zero e f = ids p.group.0 p.unit.0 (and_first (ok_ids p.group p.unit) (ok_w p.w) (subst (λ (b : Bool). cond b (ok_ids p.group p.unit && ok_w p.w) (eqb p.family family_k && zero_ids p.group p.unit && ok_k p.k) ≡ true) (eq-eqb p.family family_w f) (and_first (ok_panel p) (every ok_panel l) e)))
  where
    ids : (g u : ℕ) → (leb 1 g && leb g 99 && leb 1 u && leb u 99) ≡ true → (1 ≤ g) × ((g ≤ 99) × (u ≤ 99))
    ids g u e =
        let three = and_first (leb 1 g && leb g 99 && leb 1 u) (leb u 99) e in
        let two = and_first (leb 1 g && leb g 99) (leb 1 u) three in
        (leb-true 1 g (and_first (leb 1 g) (leb g 99) two), (leb-true g 99 (and_second (leb 1 g) (leb g 99) two), leb-true u 99 (and_second (leb 1 g && leb g 99 && leb 1 u) (leb u 99) e)))
named (p ∷ l) n (suc k) e f = named l n k (and_second (ok_panel p) (every ok_panel l) e) f

-- ---- pairs by their places

every_all : {A : Type 0} (f : A → Bool) (l : List A) (d : A) → ((k : ℕ) → k < length l → f (get_or l k d) ≡ true) → every f l ≡ true
every_all f [] d a = refl
every_all f (x ∷ l) d a = and_both (f x) (every f l) (a 0 (omega arith)) (every_all f l d (λ k h. a (suc k) (omega arith)))

distinct_at : (ps : List Panel) (d : Panel) (i j : ℕ) → distinct ps ≡ true → i < j → j < length ps → share (get_or ps i d) (get_or ps j d) ≡ false
unfolding distinct
distinct_at [] d i j e l h = absurd (omega arith)
distinct_at (p ∷ ps) d i zero e l h = absurd (omega arith)
distinct_at (p ∷ ps) d zero (suc j) e l h = not-true _ (every_at (apart p) ps j d (and_first (every (apart p) ps) (distinct ps) e) (omega arith))
distinct_at (p ∷ ps) d (suc i) (suc j) e l h = distinct_at ps d i j (and_second (every (apart p) ps) (distinct ps) e) (omega arith) (omega arith)

distinct_all : (ps : List Panel) (d : Panel) → ((i j : ℕ) → i < j → j < length ps → share (get_or ps i d) (get_or ps j d) ≡ false) → distinct ps ≡ true
unfolding distinct
distinct_all [] d a = refl
distinct_all (p ∷ ps) d a =
    and_both (every (apart p) ps) (distinct ps)
    (every_all (apart p) ps d (λ k h. ap not (a 0 (suc k) (omega arith) (omega arith))))
    (distinct_all ps d (λ i j l h. a (suc i) (suc j) (omega arith) (omega arith)))

-- two tests that say yes of the same say the same
both_ways : (a b : Bool) → (a ≡ true → b ≡ true) → (b ≡ true → a ≡ true) → a ≡ b
both_ways true b f g = sym (f refl)
both_ways false true f g = g refl
both_ways false false f g = refl

-- a ring of panels that keep the rules is asked whether their pairs are distinct
pub ring_distinct : (ids : List Ids) (ring : List ℕ) → Rings ids ring → length ids ≡ 8 → ((k : ℕ) → Named (get_or ids k no_ids)) → all_apart ring ≡ distinct (map bare ids)
ring_distinct ids ring r e m = both_ways (all_apart ring) (distinct (map bare ids)) there back
  where
    at : (k : ℕ) → get_or (map bare ids) k (bare no_ids) ≡ bare (get_or ids k no_ids)
    at k = get_or-map bare ids k no_ids

    there : all_apart ring ≡ true → distinct (map bare ids) ≡ true
    there a = distinct_all (map bare ids) (bare no_ids) (λ i j l h. rw (at i, at j) (no i j l (subst (λ (n : ℕ). j < n) (length-map ids bare ∙ e) h) (share (bare (get_or ids i no_ids)) (bare (get_or ids j no_ids))) refl))
      where
        no : (i j : ℕ) → i < j → j < 8 → (b : Bool) → share (bare (get_or ids i no_ids)) (bare (get_or ids j no_ids)) ≡ b → b ≡ false
        no i j l h true t = absurd (asked_differ ids ring r a i j l h (shared_same _ _ i j t))
        no i j l h false t = refl

    back : distinct (map bare ids) ≡ true → all_apart ring ≡ true
    back a = differ_asked ids ring r (λ i j l h s. false_true (sym (subst (λ (b : Bool). b ≡ false) (rw (at i, at j) refl) (distinct_at (map bare ids) (bare no_ids) i j a l (rw (length-map ids bare, e) h))) ∙ same_shared _ _ i j (m i) (m j) l h s))
