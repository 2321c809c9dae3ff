-- A box stays a box of the same panels, and a valid one valid: each turn keeps its panel's name and its validity, and no message
-- passes the door of a box that breaks the rules.
use mathlib.Core.Path.{◌≡◌, refl, ap, sym, ◌∙◌}
use mathlib.Core.Bool.{Bool, true, false, cond, ◌&&◌}
use mathlib.Core.List.{List, [], ◌∷◌, map}
use Prim.Native.Nat.{ℕ, zero, suc, ◌<◌, ◌≤◌}
use native.Mathlib.Omega.{arith}
use lib.Dec.{leb, ltb}
use lib.ListN.{length, get_or, take}
use borrow.Author.Tests.{eq-eqb, ltb-true, ltb-false}
use Rattle.laws.specs.Lists.{every}
use Rattle.laws.specs.Runs.{each}
use Rattle.laws.proofs.Conditions.{false_true, and_first, and_second, choose}
use Rattle.laws.proofs.Runs.{each_length, each_map, each_take}
use Rattle.panels.specs.Records.{family_w, family_k, past_end}
use Rattle.panels.specs.Valid.{ok_panel, share, apart, distinct, in_use, valid}
use Rattle.panels.specs.declared.Panel.{Panel}
use Rattle.panels.specs.declared.DisplayBox.{DisplayBox}
use Rattle.steps.specs.Messages.{Message, rs232c, kjw, tcp, udp, Name, nobody, name_of, names, is_w}
use Rattle.steps.specs.Addressing.{addressed}
use Rattle.steps.specs.Step.{turn, Outcome, panel_at, with_panels, step}
use Rattle.steps.proofs.Sound.{sound}
use Rattle.steps.proofs.Door.{opens, done_opens, shut, speaks, nobody_speaks, its_family, by_door}
use Rattle.steps.proofs.Turns.{Reaches, at_place}

-- ---- the number of places

-- the box has as many places as before
pub places_kept : (b : DisplayBox) (m : Message) → length (step b m).box.panels ≡ length b.panels
places_kept b m = by_door (λ (o : Outcome). length o.box.panels ≡ length b.panels) b m (λ e. each_length (addressed (names b) m) (λ (p : Panel). (turn m p).after) b.panels) (λ e. refl)

-- ---- names and validity

judged : (b : DisplayBox) → valid b ≡ true → every ok_panel (in_use b) ≡ true
unfolding valid
judged b v =
    let first = and_first (leb 1 b.count && leb b.count 8 && every ok_panel (in_use b)) (distinct (in_use b)) v in
    and_second (leb 1 b.count && leb b.count 8) (every ok_panel (in_use b)) first

-- the panels after turns of those that are called
module _ (m : Message) where
  abbrev after_turn : Panel → Panel
  after_turn p = (turn m p).after

  turns_ok : (called : ℕ → Bool) (ps : List Panel) → every ok_panel ps ≡ true → every ok_panel (each called after_turn ps) ≡ true
  turns_ok called [] e = refl
  turns_ok called (p ∷ ps) e =
      let first = and_first (ok_panel p) (every ok_panel ps) e in
      rw (choose (λ (x : Panel). ok_panel x ≡ true) (called 0) (after_turn p) p (λ t. (sound m p).ok_kept first) (λ t. first))
      (turns_ok (λ (j : ℕ). called (suc j)) ps (and_second (ok_panel p) (every ok_panel ps) e))

  apart_left : (p q : Panel) → apart (after_turn p) q ≡ apart p q
  unfolding share
  apart_left p q = rw ((sound m p).known.family_kept, (sound m p).known.group_kept, (sound m p).known.unit_kept)

  apart_right : (p q : Panel) → apart p (after_turn q) ≡ apart p q
  unfolding share
  apart_right p q = rw ((sound m q).known.family_kept, (sound m q).known.group_kept, (sound m q).known.unit_kept)

  turns_apart : (called : ℕ → Bool) (p p' : Panel) (ps : List Panel) → ((q : Panel) → apart p' q ≡ apart p q) → every (apart p') (each called after_turn ps) ≡ every (apart p) ps
  turns_apart called p p' [] e = refl
  turns_apart called p p' (q ∷ ps) e =
      let here : apart p' (cond (called 0) (after_turn q) q) ≡ apart p q =
      choose (λ (x : Panel). apart p' x ≡ apart p q) (called 0) (after_turn q) q (λ t. apart_right p' q ∙ e q) (λ t. e q) in
      rw (here, turns_apart (λ (j : ℕ). called (suc j)) p p' ps e)

  turns_distinct : (called : ℕ → Bool) (ps : List Panel) → distinct (each called after_turn ps) ≡ distinct ps
  unfolding distinct
  turns_distinct called [] = refl
  turns_distinct called (p ∷ ps) =
      let rest : ℕ → Bool = λ (j : ℕ). called (suc j) in
      let same : (q : Panel) → apart (cond (called 0) (after_turn p) p) q ≡ apart p q =
      λ q. choose (λ (x : Panel). apart x q ≡ apart p q) (called 0) (after_turn p) p (λ t. apart_left p q) (λ t. refl) in
      rw (turns_apart rest p (cond (called 0) (after_turn p) p) ps same, turns_distinct rest ps)

  turns_valid : (called : ℕ → Bool) (b : DisplayBox) → valid b ≡ true → valid (with_panels b (each called after_turn b.panels)) ≡ true
  unfolding valid
  turns_valid called b v =
      let ok = judged b v in
      rw (each_take called after_turn b.count b.panels, turns_ok called (in_use b) ok, turns_distinct called (in_use b)) (rw ok at v)

-- a valid box stays valid, so that no setting leaves "its range below"
pub valid_kept : (b : DisplayBox) (m : Message) → valid b ≡ true → valid (step b m).box ≡ true
valid_kept b m v = by_door (λ (o : Outcome). valid o.box ≡ true) b m (λ e. turns_valid m (addressed (names b) m) b v) (λ e. v)

-- the names of a valid box, and of one that breaks the rules
pub valid_names : (b : DisplayBox) → valid b ≡ true → names b ≡ map name_of (in_use b)
unfolding names
valid_names b v = rw v

pub bad_names : (b : DisplayBox) → valid b ≡ false → names b ≡ []
unfolding names
bad_names b v = rw v

pub bad_shut : (b : DisplayBox) (m : Message) → valid b ≡ false → opens (names b) m ≡ false
bad_shut b m v = ap (λ (ns : List Name). opens ns m) (bad_names b v) ∙ shut m

-- "A box handed in that breaks these rules [..] is [..] given back as it came."
pub bad_kept : (b : DisplayBox) (m : Message) → valid b ≡ false → (step b m).box ≡ b
bad_kept b m v = by_door (λ (o : Outcome). o.box ≡ b) b m (λ e. absurd (false_true (sym (bad_shut b m v) ∙ e))) (λ e. refl)

in_use_named : (b : DisplayBox) (m : Message) → map name_of (in_use (step b m).box) ≡ map name_of (in_use b)
in_use_named b m =
    by_door (λ (o : Outcome). map name_of (in_use o.box) ≡ map name_of (in_use b)) b m
    (λ e. ap (map name_of) (each_take (addressed (names b) m) (after_turn m) b.count b.panels) ∙ each_map name_of (addressed (names b) m) (after_turn m) (in_use b) (λ p. (sound m p).known.name_kept))
    (λ e. refl)

-- families and IDs stay, and with them whom each message addresses
pub names_kept : (b : DisplayBox) (m : Message) → names (step b m).box ≡ names b
names_kept b m = go (valid b) refl
  where
    go : (v : Bool) → valid b ≡ v → names (step b m).box ≡ names b
    go true v = valid_names (step b m).box (valid_kept b m v) ∙ in_use_named b m ∙ sym (valid_names b v)
    go false v = ap names (bad_kept b m v)

-- ---- what no message touches

name_here : (n : ℕ) (ps : List Panel) (i : ℕ) → i < n → get_or (map name_of (take n ps)) i nobody ≡ name_of (get_or ps i past_end)
unfolding name_of
name_here zero ps i h = absurd (omega arith)
name_here (suc n) [] i h = refl
name_here (suc n) (p ∷ ps) zero h = refl
name_here (suc n) (p ∷ ps) (suc i) h = name_here n ps i (omega arith)

name_behind : (n : ℕ) (ps : List Panel) (i : ℕ) → n ≤ i → get_or (map name_of (take n ps)) i nobody ≡ nobody
name_behind zero ps i h = refl
name_behind (suc n) [] i h = refl
name_behind (suc n) (p ∷ ps) zero h = absurd (omega arith)
name_behind (suc n) (p ∷ ps) (suc i) h = name_behind n ps i (omega arith)

-- the name at a place in use is that of the panel there, and behind the panels in use there is none
pub in_use_name : (b : DisplayBox) (i : ℕ) → valid b ≡ true → i < b.count → get_or (names b) i nobody ≡ name_of (panel_at i b)
in_use_name b i v k = ap (λ (ns : List Name). get_or ns i nobody) (valid_names b v) ∙ name_here b.count b.panels i k

pub unused_name : (b : DisplayBox) (i : ℕ) → valid b ≡ true → b.count ≤ i → get_or (names b) i nobody ≡ nobody
unused_name b i v k = ap (λ (ns : List Name). get_or ns i nobody) (valid_names b v) ∙ name_behind b.count b.panels i k

-- a message comes to a panel of no box but a valid one
pub reached_valid : {b : DisplayBox} {m : Message} {i : ℕ} → Reaches b m i → valid b ≡ true
reached_valid {b} {m} r = judge (valid b) refl
  where
    judge : (v : Bool) → valid b ≡ v → valid b ≡ true
    judge true v = v
    judge false v = absurd (false_true (sym (bad_shut b m v) ∙ done_opens (names b) m r.passes))

-- a place that a message comes to holds a panel in use, of the message's family
pub its_own : {b : DisplayBox} {m : Message} {i : ℕ} → Reaches b m i → (i < b.count) × (speaks m (name_of (panel_at i b)) ≡ true)
its_own {b} {m} {i} r = place (ltb i b.count) refl (reached_valid r)
  where
    spoken : speaks m (get_or (names b) i nobody) ≡ true
    spoken = its_family (names b) m i r.passes r.meant

    place : (t : Bool) → ltb i b.count ≡ t → valid b ≡ true → (i < b.count) × (speaks m (name_of (panel_at i b)) ≡ true)
    place true t v = let k = ltb-true i b.count t in (k, sym (ap (speaks m) (in_use_name b i v k)) ∙ spoken)
    place false t v =
        absurd (false_true (sym (nobody_speaks m) ∙ sym (ap (speaks m) (unused_name b i v (ltb-false i b.count t))) ∙ spoken))

-- the places behind the panels in use are given back as they came
pub unused_kept : (b : DisplayBox) (m : Message) (i : ℕ) → b.count ≤ i → panel_at i (step b m).box ≡ panel_at i b
unused_kept b m i k = at_place (λ (p : Panel). p ≡ panel_at i b) b m i refl (λ r. absurd (let h = (its_own r).0 in omega arith))

w_turn : (m : Message) (p : Panel) → p.family ≡ family_w → speaks m (name_of p) ≡ true → (turn m p).after.k ≡ p.k
unfolding turn name_of
w_turn (rs232c l m area) p f s = refl
w_turn (kjw l m area) p f s = absurd (false_true (rw (eq-eqb p.family family_w f) at s))
w_turn (tcp l m area) p f s = refl
w_turn (udp m) p f s = refl

-- "family W (speaks RS-232C and SDCP with VMC text) or family K (speaks KJW frames)": the other family's record of a panel stays
pub w_keeps_k : (b : DisplayBox) (m : Message) (i : ℕ) → (panel_at i b).family ≡ family_w → (panel_at i (step b m).box).k ≡ (panel_at i b).k
w_keeps_k b m i f = at_place (λ (p : Panel). p.k ≡ (panel_at i b).k) b m i refl (λ r. w_turn m (panel_at i b) f (its_own r).1)

no_w : (p : Panel) → p.family ≡ family_k → is_w (name_of p) ≡ false
unfolding name_of
no_w p f = rw f

k_turn : (m : Message) (p : Panel) → p.family ≡ family_k → speaks m (name_of p) ≡ true → (turn m p).after.w ≡ p.w
unfolding turn
k_turn (rs232c l m area) p f s = absurd (false_true (sym (no_w p f) ∙ s))
k_turn (kjw l m area) p f s = refl
k_turn (tcp l m area) p f s = absurd (false_true (sym (no_w p f) ∙ s))
k_turn (udp m) p f s = absurd (false_true (sym (no_w p f) ∙ s))

pub k_keeps_w : (b : DisplayBox) (m : Message) (i : ℕ) → (panel_at i b).family ≡ family_k → (panel_at i (step b m).box).w ≡ (panel_at i b).w
k_keeps_w b m i f = at_place (λ (p : Panel). p.w ≡ (panel_at i b).w) b m i refl (λ r. k_turn m (panel_at i b) f (its_own r).1)
