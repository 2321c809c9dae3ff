use Rattle.std.proofs.Common.{ℕ, ◌≡◌, refl, sym, ◌∙◌, ◌-◌, ◌≤◌, Bool, true, false, cond, not, ◌&&◌, ◌||◌, List, [], ◌∷◌, length, drop, eqb}
use lib.ListN.{length-drop}
use mathlib.Core.Bool.{and-true}
use native.Mathlib.Omega.{arith}
use borrow.Author.Tests.{eqb-true, eqb-false, eq-eqb, ne_eqb}
use Rattle.laws.specs.Lists.{every}
use Rattle.sdap.specs.Rules.{is_text}
use Rattle.sdap.proofs.is_text.Invariants.{joined}
use Rattle.sdap.proofs.is_text.Goals as goal

joined_text : (l : List ℕ) → joined l ≡ is_text l
unfolding is_text
joined_text [] = refl
joined_text (x ∷ []) = one (eqb x 0)
  where
    one : (b : Bool) → true ≡ cond b true true
    one true = refl
    one false = refl
joined_text (x ∷ y ∷ l) = more (eqb x 0) (eqb y 0) refl (joined_text (y ∷ l))
  where
    more : (b d : Bool) → eqb y 0 ≡ d → joined (y ∷ l) ≡ cond (eqb y 0) (every (eqb 0) l) (is_text l)
        → ((not b || eqb y 0) && joined (y ∷ l)) ≡ cond b (eqb 0 y && every (eqb 0) l) (cond (eqb y 0) (every (eqb 0) l) (is_text l))
    more false d q e = e
    more true true q e = rw (eq-eqb 0 y (sym (eqb-true y 0 q)), q) (e ∙ rw q)
    more true false q e = rw (ne_eqb 0 y (λ z. eqb-false y 0 q (sym z)), q)

-- one byte or none is left
last : (t : List ℕ) (i : ℕ) → 1 ≤ i → length t ≤ i → joined (drop (i - 1) t) ≡ true
last t i h k = few (drop (i - 1) t) (simp length-drop (omega arith))
  where
    few : (l : List ℕ) → length l ≤ 1 → joined l ≡ true
    few [] h = refl
    few (x ∷ []) h = refl
    few (x ∷ y ∷ l) h = absurd (omega arith)

pub returns : goal.returns
returns c =
    let t = c.args.t.now in
    sym (sym (joined_text t) ∙ c.loop-i.invariant.2 ∙ rw (last t c.loop-i.i c.loop-i.invariant.1 (omega arith)) (and-true c.loop-i.ok))
