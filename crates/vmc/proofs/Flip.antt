-- What is said of one flip and its three words: a word's flip is none of the others' and never none, so ON for it ends them, and OFF for
-- it leaves them.
use Prim.Native.Nat.{ℕ, ◌<◌, ◌≤◌}
use mathlib.Core.Path.{◌≡◌, refl, sym, ap, subst, ◌∙◌}
use mathlib.Core.Bool.{Bool, true, false, cond, not, ◌&&◌, ◌||◌}
use mathlib.Core.List.{List}
use native.Mathlib.Omega.{arith}
use lib.Dec.{T, eqb, leb, ltb, eqb→eq}
use lib.ListN.{length, get_or, set, length-set}
use lib.Seq.{set_out, set-get_or, get_or-set_same, get_or-set_other}
use borrow.Author.Tests.{eq-eqb, ne_eqb, eqb-true, eqb-false, lt-ltb, le-ltb, ltb-true, ltb-false, leb-true, le-leb}
use Rattle.laws.specs.Lists.{within}
use Rattle.laws.proofs.Conditions.{and_first, and_second, false_true}
use Rattle.laws.proofs.Lists.{within_at, within_set, bound_at}
use Rattle.laws.proofs.Table.{below}
use Rattle.settings.specs.Table.{flip_place, no_flip, most_flip, place_count, setting_count, mosts, tops}
use Rattle.vmc.specs.Orders.{flip_of, flipped_to, flip_says, assigned, value_at}

-- FLIPH, FLIPV or FLIPHV
abbrev pub is_flip : ℕ → Bool
is_flip k = leb flip_place k && ltb k setting_count

pub flip_from : (k : ℕ) → is_flip k ≡ true → flip_place ≤ k
flip_from k e = leb-true flip_place k (and_first (leb flip_place k) (ltb k setting_count) e)

pub flip_below : (k : ℕ) → is_flip k ≡ true → k < setting_count
flip_below k e = ltb-true k setting_count (and_second (leb flip_place k) (ltb k setting_count) e)

pub flip_is : (k : ℕ) → flip_place ≤ k → k < setting_count → is_flip k ≡ true
flip_is k h l = rw (le-leb flip_place k h, lt-ltb k setting_count l)

-- ---- the greatest values by place and by name

-- a name of the table has the place of its number
own_top : ℕ → Bool
own_top k = eqb (get_or mosts k 0) (get_or tops k 0)

own_top_lem : (k : ℕ) → k < flip_place → get_or mosts k 0 ≡ get_or tops k 0
unfolding own_top
own_top_lem k h = eqb→eq _ _ (below flip_place own_top tt k h)

-- a flip word is a switch
switch_top : ℕ → Bool
switch_top k = ltb k flip_place || eqb (get_or tops k 0) 1

switch_top_lem : (k : ℕ) → flip_place ≤ k → k < setting_count → get_or tops k 0 ≡ 1
unfolding switch_top
switch_top_lem k h l = eqb→eq _ _ (subst (λ (b : Bool). T (b || eqb (get_or tops k 0) 1)) (le-ltb k flip_place h) (below setting_count switch_top tt k l))

-- ---- one word

-- the value that a word has of the flip in force
pub says_it : (flip inForce : ℕ) → inForce ≡ flip → flip_says flip inForce ≡ 1
says_it flip inForce e = rw (eq-eqb inForce flip e)

pub says_not : (flip inForce : ℕ) → (inForce ≡ flip → ⊥) → flip_says flip inForce ≡ 0
says_not flip inForce n = rw (ne_eqb inForce flip n)

-- a word that says ON has the flip in force
pub says_on : (flip inForce : ℕ) → flip_says flip inForce ≡ 1 → inForce ≡ flip
says_on flip inForce = go (eqb inForce flip) refl
  where
    go : (b : Bool) → eqb inForce flip ≡ b → ◌≡◌ {A = ℕ} (cond b 1 0) 1 → inForce ≡ flip
    go true e h = eqb-true inForce flip e
    go false e h = absurd (omega (arith, h))

says_off : (flip inForce : ℕ) → flip_says flip inForce ≡ 0 → inForce ≡ flip → ⊥
says_off flip inForce h e = let g = says_it flip inForce e in omega (arith, g, h)

says_small : (flip inForce : ℕ) → flip_says flip inForce ≤ 1
says_small flip inForce = go (eqb inForce flip)
  where
    go : (b : Bool) → cond b 1 0 ≤ 1
    go true = omega arith
    go false = omega arith

-- ON, and OFF where it is in force and where it is not
pub to_on : (flip inForce : ℕ) → flipped_to flip 1 inForce ≡ flip
to_on flip inForce = refl

pub to_none : (flip inForce : ℕ) → inForce ≡ flip → flipped_to flip 0 inForce ≡ no_flip
to_none flip inForce e = rw (eq-eqb inForce flip e)

to_same : (flip inForce : ℕ) → (inForce ≡ flip → ⊥) → flipped_to flip 0 inForce ≡ inForce
to_same flip inForce n = rw (ne_eqb inForce flip n)

-- the flip after it is none, the word's or the one before
to_small : (flip v inForce : ℕ) → flip ≤ most_flip → inForce ≤ most_flip → flipped_to flip v inForce ≤ most_flip
to_small flip v inForce h l = go (eqb v 0) (eqb inForce flip)
  where
    go : (a b : Bool) → cond a (cond b no_flip inForce) flip ≤ most_flip
    go true true = omega arith
    go true false = l
    go false b = h

-- ---- the settings, by what kind of name it is

pub own_value : (k : ℕ) (s : List ℕ) → k < flip_place → value_at k s ≡ get_or s k 0
own_value k s h = rw (lt-ltb k flip_place h)

pub flip_value : (k : ℕ) (s : List ℕ) → flip_place ≤ k → value_at k s ≡ flip_says (flip_of k) (get_or s flip_place 0)
flip_value k s h = rw (le-ltb k flip_place h)

own_assigned : (k v : ℕ) (s : List ℕ) → k < flip_place → assigned k v s ≡ set s k v
own_assigned k v s h = rw (lt-ltb k flip_place h)

pub flip_assigned : (k v : ℕ) (s : List ℕ) → flip_place ≤ k → k < setting_count → assigned k v s ≡ set s flip_place (flipped_to (flip_of k) v (get_or s flip_place 0))
flip_assigned k v s h l = rw (le-ltb k flip_place h, lt-ltb k setting_count l)

none_assigned : (k v : ℕ) (s : List ℕ) → setting_count ≤ k → assigned k v s ≡ s
none_assigned k v s h = rw (le-ltb k flip_place (omega arith), le-ltb k setting_count h)

-- the record has as many places as before
pub assigned_length : (k v : ℕ) (s : List ℕ) → length (assigned k v s) ≡ length s
assigned_length k v s = go (ltb k flip_place) (ltb k setting_count)
  where
    go : (a b : Bool) → length (cond a (set s k v) (cond b (set s flip_place (flipped_to (flip_of k) v (get_or s flip_place 0))) s)) ≡ length s
    go true b = length-set s k v
    go false true = length-set s flip_place _
    go false false = refl

-- ---- its range

-- the value behind a name is in the name's range
pub value_fits : (k : ℕ) (s : List ℕ) → k < setting_count → within s mosts ≡ true → value_at k s ≤ get_or tops k 0
value_fits k s h w = go (ltb k flip_place) refl
  where
    go : (b : Bool) → ltb k flip_place ≡ b → value_at k s ≤ get_or tops k 0
    go true e =
        let l = ltb-true k flip_place e in
        let q = own_value k s l in
        let t = own_top_lem k l in
        let i = within_at s mosts k w in
        omega (arith, q, t, i)
    go false e =
        let l = ltb-false k flip_place e in
        let q = flip_value k s l in
        let t = switch_top_lem k l h in
        let i = says_small (flip_of k) (get_or s flip_place 0) in
        omega (arith, q, t, i)

-- a value in its range leaves the record in its ranges
pub assigned_within : (k v : ℕ) (s : List ℕ) → k < setting_count → v ≤ get_or tops k 0 → within s mosts ≡ true → within (assigned k v s) mosts ≡ true
assigned_within k v s h m w = go (ltb k flip_place) refl
  where
    go : (b : Bool) → ltb k flip_place ≡ b → within (assigned k v s) mosts ≡ true
    go true e =
        let l = ltb-true k flip_place e in
        let t = own_top_lem k l in
        rw (own_assigned k v s l) (within_set s mosts k v w (bound_at mosts k v (omega (arith, t, m))))
    go false e =
        let l = ltb-false k flip_place e in
        let i = within_at s mosts flip_place w in
        rw (flip_assigned k v s l h) (within_set s mosts flip_place _ w (bound_at mosts flip_place _ (to_small (flip_of k) v (get_or s flip_place 0) (omega arith) i)))

-- ---- asked back

-- the value that a name has, set, changes nothing
pub assigned_back : (k : ℕ) (s : List ℕ) → k < setting_count → assigned k (value_at k s) s ≡ s
assigned_back k s h = go (ltb k flip_place) refl
  where
    force : ℕ
    force = get_or s flip_place 0

    kept : (b : Bool) → eqb force (flip_of k) ≡ b → flipped_to (flip_of k) (flip_says (flip_of k) force) force ≡ force
    kept true e = let q = eqb-true force (flip_of k) e in rw (says_it (flip_of k) force q, to_on (flip_of k) force) (sym q)
    kept false e = let n = eqb-false force (flip_of k) e in rw (says_not (flip_of k) force n) (to_same (flip_of k) force n)

    go : (b : Bool) → ltb k flip_place ≡ b → assigned k (value_at k s) s ≡ s
    go true e = let l = ltb-true k flip_place e in rw (own_value k s l, own_assigned k (get_or s k 0) s l) (set-get_or s k 0)
    go false e =
        let l = ltb-false k flip_place e in
        rw (flip_value k s l, flip_assigned k (flip_says (flip_of k) force) s l h, kept (eqb force (flip_of k)) refl) (set-get_or s flip_place 0)

-- what a word says after ON and after OFF for it
said : (flip v inForce : ℕ) → 1 ≤ flip → v ≤ 1 → flip_says flip (flipped_to flip v inForce) ≡ v
said flip v inForce f h = go (eqb v 0) refl (eqb inForce flip) refl
  where
    go : (a : Bool) → eqb v 0 ≡ a → (b : Bool) → eqb inForce flip ≡ b → flip_says flip (flipped_to flip v inForce) ≡ v
    go true e true g =
        let z = eqb-true v 0 e in
        rw (z, to_none flip inForce (eqb-true inForce flip g)) (says_not flip no_flip (λ q. omega (arith, q)))
    go true e false g =
        let z = eqb-true v 0 e in
        let n = eqb-false inForce flip g in
        rw (z, to_same flip inForce n) (says_not flip inForce n)
    go false e b g =
        let n = eqb-false v 0 e in
        let z : v ≡ 1 = omega (arith, n) in
        rw (z, to_on flip inForce) (says_it flip flip refl)

-- a value that was set is the value behind its name
pub assigned_at : (k v : ℕ) (s : List ℕ) → k < setting_count → v ≤ get_or tops k 0 → length s ≡ place_count → value_at k (assigned k v s) ≡ v
assigned_at k v s h m q = go (ltb k flip_place) refl
  where
    go : (b : Bool) → ltb k flip_place ≡ b → value_at k (assigned k v s) ≡ v
    go true e =
        let l = ltb-true k flip_place e in
        rw (own_assigned k v s l, own_value k (set s k v) l) (get_or-set_same s k v 0 (omega arith))
    go false e =
        let l = ltb-false k flip_place e in
        let t = switch_top_lem k l h in
        rw (flip_assigned k v s l h, flip_value k (set s flip_place (flipped_to (flip_of k) v (get_or s flip_place 0))) l, get_or-set_same s flip_place (flipped_to (flip_of k) v (get_or s flip_place 0)) 0 (omega arith)) (said (flip_of k) v (get_or s flip_place 0) (omega arith) (omega (arith, t, m)))

-- ---- it stays

-- setting name k to v sets name j: its own word, and ON for a flip word the other two
abbrev pub alters : ℕ → ℕ → ℕ → Bool
alters k v j = eqb j k || (is_flip k && is_flip j && not (eqb v 0))

neither : (a b : Bool) → (a || b) ≡ false → (a ≡ false) × (b ≡ false)
neither true b e = absurd (false_true (sym e))
neither false b e = (refl, e)

-- OFF for one flip word leaves what another says
off_leaves : (one other inForce : ℕ) → 1 ≤ other → (other ≡ one → ⊥) → flip_says other (flipped_to one 0 inForce) ≡ flip_says other inForce
off_leaves one other inForce h d = go (eqb inForce one) refl
  where
    go : (b : Bool) → eqb inForce one ≡ b → flip_says other (flipped_to one 0 inForce) ≡ flip_says other inForce
    go true e =
        let q = eqb-true inForce one e in
        rw (to_none one inForce q, says_not other no_flip (λ z. omega (arith, z)), says_not other inForce (λ z. d (sym z ∙ q)))
    go false e = ap (flip_says other) (to_same one inForce (eqb-false inForce one e))

-- so does it in the record, also in one that is too short for a flip
off_stays : (k j : ℕ) (s : List ℕ) → flip_place ≤ k → flip_place ≤ j → (j ≡ k → ⊥) → flip_says (flip_of j) (get_or (set s flip_place (flipped_to (flip_of k) 0 (get_or s flip_place 0))) flip_place 0) ≡ flip_says (flip_of j) (get_or s flip_place 0)
off_stays k j s h l d = go (ltb flip_place (length s)) refl
  where
    next : ℕ
    next = flipped_to (flip_of k) 0 (get_or s flip_place 0)

    go : (b : Bool) → ltb flip_place (length s) ≡ b → flip_says (flip_of j) (get_or (set s flip_place next) flip_place 0) ≡ flip_says (flip_of j) (get_or s flip_place 0)
    go true e = rw (get_or-set_same s flip_place next 0 (ltb-true flip_place (length s) e)) (off_leaves (flip_of k) (flip_of j) (get_or s flip_place 0) (omega arith) (λ z. d (omega (arith, z))))
    go false e = rw (set_out s flip_place next (ltb-false flip_place (length s) e))

-- the value behind a name that is not altered stays
pub assigned_other : (k v j : ℕ) (s : List ℕ) → j < setting_count → alters k v j ≡ false → value_at j (assigned k v s) ≡ value_at j s
assigned_other k v j s h a = go (ltb k flip_place) refl (ltb k setting_count) refl (ltb j flip_place) refl
  where
    apart : j ≡ k → ⊥
    apart = eqb-false j k (neither (eqb j k) (is_flip k && is_flip j && not (eqb v 0)) a).0

    off : flip_place ≤ k → k < setting_count → flip_place ≤ j → v ≡ 0
    off l m n = given (eqb v 0) refl (neither (eqb j k) (is_flip k && is_flip j && not (eqb v 0)) a).1
      where
        given : (b : Bool) → eqb v 0 ≡ b → (is_flip k && is_flip j && not b) ≡ false → v ≡ 0
        given true e f = eqb-true v 0 e
        given false e f = absurd (false_true (sym f ∙ rw (flip_is k l m, flip_is j n h)))

    go : (b : Bool) → ltb k flip_place ≡ b → (c : Bool) → ltb k setting_count ≡ c → (d : Bool) → ltb j flip_place ≡ d → value_at j (assigned k v s) ≡ value_at j s
    go true e c f true g =
        let l = ltb-true j flip_place g in
        rw (own_assigned k v s (ltb-true k flip_place e), own_value j (set s k v) l, own_value j s l) (get_or-set_other s k j v 0 apart)
    go true e c f false g =
        let l = ltb-false j flip_place g in
        let m = ltb-true k flip_place e in
        rw (own_assigned k v s m, flip_value j (set s k v) l, flip_value j s l, get_or-set_other s k flip_place v 0 (λ z. omega (arith, z)))
    go false e true f true g =
        let l = ltb-true j flip_place g in
        let next = flipped_to (flip_of k) v (get_or s flip_place 0) in
        rw (flip_assigned k v s (ltb-false k flip_place e) (ltb-true k setting_count f), own_value j (set s flip_place next) l, own_value j s l) (get_or-set_other s flip_place j next 0 (λ z. omega (arith, z)))
    go false e true f false g =
        let l = ltb-false j flip_place g in
        let m = ltb-false k flip_place e in
        let n = ltb-true k setting_count f in
        rw (off m n l, flip_assigned k 0 s m n, flip_value j (set s flip_place (flipped_to (flip_of k) 0 (get_or s flip_place 0))) l, flip_value j s l) (off_stays k j s m l apart)
    go false e false f d g = ap (value_at j) (none_assigned k v s (ltb-false k setting_count f))
