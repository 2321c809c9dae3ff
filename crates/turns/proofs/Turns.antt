-- The promise allows one outcome, and what holds of a turn and of the refusal holds behind check 1: `cond` computes on its Boolean.
use Prim.Native.Nat.{ℕ, ◌<◌, ◌≤◌}
use mathlib.Core.Path.{◌≡◌, refl, sym, ap, subst, ◌∙◌}
use mathlib.Core.Bool.{Bool, true, false, cond}
use mathlib.Core.List.{List}
use native.Mathlib.Omega.{arith}
use lib.ListN.{length}
use lib.Dec.{ltb}
use borrow.Author.Tests.{lt-ltb, le-ltb, ltb-false}
use Rattle.laws.specs.Bytes.{Sent}
use Rattle.laws.proofs.Conditions.{choose}
use Rattle.terms.specs.Answers.{number_of}
use Rattle.terms.specs.declared.Answer.{Answer}
use Rattle.terms.specs.declared.Answer.TheVariants.{Done, AreaTooSmall}
use Rattle.turns.specs.Turns.{Turn, left, taken, Takes}

pub takes_one : {R : Type 0} (turn : R → Turn R) (x : R) (area : List ℕ) (y y' : R) (a a' : Answer) (n n' : ℕ) (z z' : List ℕ) → Takes turn x area y a n z → Takes turn x area y' a' n' z' → (y ≡ y') × (a ≡ a') × (n ≡ n') × (z ≡ z')
takes_one turn x area y y' a a' n n' z z' p q =
    (p.record_after ∙ sym q.record_after, p.answer_given ∙ sym q.answer_given, p.sends.length_is ∙ sym q.sends.length_is, p.sends.area_is ∙ sym q.sends.area_is)

-- ---- the two sides of check 1

-- 511 bytes are too few, and 512 enough
pub edge : {R : Type 0} (turn : R → Turn R) (x : R) → (taken 511 turn x ≡ left x AreaTooSmall) × (taken 512 turn x ≡ turn x)
unfolding taken
edge turn x = (refl, refl)

pub small : {R : Type 0} (room : ℕ) (turn : R → Turn R) (x : R) → room < 512 → taken room turn x ≡ left x AreaTooSmall
unfolding taken
small room turn x h = rw (lt-ltb room 512 h)

pub roomy : {R : Type 0} (room : ℕ) (turn : R → Turn R) (x : R) → 512 ≤ room → taken room turn x ≡ turn x
unfolding taken
roomy room turn x h = rw (le-ltb room 512 h)

-- an answer 0 comes from the turn alone
pub done_room : {R : Type 0} (room : ℕ) (turn : R → Turn R) (x : R) → (taken room turn x).answer ≡ Done → 512 ≤ room
unfolding taken
done_room room turn x = go (ltb room 512) refl
  where
    go : (b : Bool) → ltb room 512 ≡ b → (cond b (left x AreaTooSmall) (turn x)).answer ≡ Done → 512 ≤ room
    go true t d = absurd (let n : 1 ≡ 0 = ap number_of d in omega arith)
    go false t d = ltb-false room 512 t

-- what holds of the refusal and of the turn
pub either : {R : Type 0} (P : Turn R → Type 0) (room : ℕ) (turn : R → Turn R) (x : R) → P (left x AreaTooSmall) → P (turn x) → P (taken room turn x)
unfolding taken
either P room turn x p q = choose P (ltb room 512) (left x AreaTooSmall) (turn x) (λ e. p) (λ e. q)

-- every answer but 0 leaves the record, if the turn is such
pub refusal_leaves : {R : Type 0} (room : ℕ) (turn : R → Turn R) (x : R) → ((number_of (turn x).answer ≡ 0 → ⊥) → (turn x).after ≡ x) → (number_of (taken room turn x).answer ≡ 0 → ⊥) → (taken room turn x).after ≡ x
refusal_leaves {R} room turn x f = either (λ (t : Turn R). (number_of t.answer ≡ 0 → ⊥) → t.after ≡ x) room turn x (λ n. refl) f

-- ---- a door that keeps the promise

takes : {R : Type 0} (turn : R → Turn R) (x : R) (area : List ℕ) (y : R) (a : Answer) (n : ℕ) (z : List ℕ) (t : Turn R) → taken (length area) turn x ≡ t → y ≡ t.after → a ≡ t.answer → Sent t.reply n area z → Takes turn x area y a n z
takes {R} turn x area y a n z t e p q s = record {
  record_after = p ∙ ap (λ (u : Turn R). u.after) (sym e);
  answer_given = q ∙ ap (λ (u : Turn R). u.answer) (sym e);
  sends = subst (λ (u : Turn R). Sent u.reply n area z) (sym e) s;
}

pub takes_small : {R : Type 0} (turn : R → Turn R) (x : R) (area : List ℕ) → length area < 512 → Takes turn x area x AreaTooSmall 0 area
takes_small turn x area h = takes turn x area x AreaTooSmall 0 area (left x AreaTooSmall) (small (length area) turn x h) refl refl (record { length_is = refl; area_is = refl })

pub takes_turn : {R : Type 0} (turn : R → Turn R) (x : R) (area : List ℕ) (y : R) (a : Answer) (n : ℕ) (z : List ℕ) (t : Turn R) → 512 ≤ length area → turn x ≡ t → y ≡ t.after → a ≡ t.answer → Sent t.reply n area z → Takes turn x area y a n z
takes_turn turn x area y a n z t h e = takes turn x area y a n z t (roomy (length area) turn x h ∙ e)
