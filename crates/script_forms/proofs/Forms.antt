-- A form filled in: from its front on it is what its first byte stands for and the rest, so words are put each with its number.
use mathlib.Core.Path.{◌≡◌, refl, sym, ap, ◌∙◌}
use mathlib.Core.Bool.{Bool, cond, false, true}
use mathlib.Core.List.{List, [], ◌∷◌, ◌++◌, append_assoc, append-nil}
use Prim.Native.Nat.{ℕ, ◌+◌, ◌<◌, ◌≤◌}
use native.Mathlib.Omega.{arith}
use borrow.Author.Tests.{ne_eqb}
use lib.Dec.{eqb}
use lib.ListN.{length, get_or, drop}
use Rattle.laws.specs.Lists.{every}
use Rattle.laws.proofs.Conditions.{and_first, and_second}
use Rattle.laws.proofs.Lists.{from, behind}
use Rattle.std.proofs.Common.{Bor, Iter}
use Rattle.std.proofs.iter.Yields.{fronts}
use Rattle.std.specs.Option.{option_copied, unwrap_or}
use Rattle.std.specs.Prelude.{Option, Some, None}
use Rattle.decimals.specs.Plain.{plain}
use Rattle.script_text.specs.Puts.{Puts}
use Rattle.script_forms.specs.Forms.{mark_text, marks_of, numbers_text}
use Rattle.script_text.specs.Texts.{number_text}
use Rattle.script_text.proofs.Puts.{puts_as, puts_then}

-- a form from i on, with the numbers that are left: at a `#` the next number, and the form behind it with those behind that
pub form_mark : (form : List ℕ) (i : ℕ) (vs vs' : List ℕ) (v : ℕ) → i < length form → get_or form i 0 ≡ 0x23 → v ≡ get_or vs 0 0 → vs' ≡ drop 1 vs → numbers_text (drop i form) vs ≡ plain v ++ numbers_text (drop (i + 1) form) vs'
unfolding numbers_text mark_text marks_of
form_mark form i vs vs' v h e n r = rw (from form i 0 h, e, n, r)

-- at another byte that byte
pub form_byte : (form : List ℕ) (i : ℕ) (vs : List ℕ) → i < length form → (get_or form i 0 ≡ 0x23 → ⊥) → numbers_text (drop i form) vs ≡ (get_or form i 0 ∷ []) ++ numbers_text (drop (i + 1) form) vs
unfolding numbers_text mark_text marks_of
form_byte form i vs h n = rw (from form i 0 h, ne_eqb (get_or form i 0) 0x23 n)

pub form_behind : (form vs : List ℕ) (i : ℕ) → length form ≤ i → numbers_text (drop i form) vs ≡ []
unfolding numbers_text
form_behind form vs i h = rw (behind form i h)

-- the next number of those that are left, 0 where there are no more
pub next_number : (s t : Iter ℕ) (r : Option (Bor ℕ)) → fronts s r t → (unwrap_or (option_copied r) 0 ≡ get_or s.rest.now 0 0) × (t.rest.now ≡ drop 1 s.rest.now)
next_number s t (Some x) e = (sym (ap (λ (l : List ℕ). get_or l 0 0) e), sym (ap (drop 1) e))
next_number s t None (n, e) = (sym (empty s.rest.now n).0, ap (λ (u : Iter ℕ). u.rest.now) e ∙ sym (empty s.rest.now n).1)
  where
    empty : (l : List ℕ) → length l ≡ 0 → (get_or l 0 0 ≡ 0) × (drop 1 l ≡ l)
    empty [] n = (refl, refl)
    empty (x ∷ l) n = absurd (omega arith)

-- no byte of a word is a `#`
abbrev pub free : List ℕ → Bool
free w = every (λ (x : ℕ). cond (eqb x 0x23) false true) w

-- a form that begins with a word and a `#` begins with the word and its number
form_word : (w form : List ℕ) (v : ℕ) (vs : List ℕ) → free w ≡ true → numbers_text (w ++ (0x23 ∷ form)) (v ∷ vs) ≡ number_text w v ++ numbers_text form vs
unfolding numbers_text mark_text marks_of number_text
form_word [] form v vs e = refl
form_word (x ∷ w) form v vs e =
    rw (unmarked (eqb x 0x23) (and_first (cond (eqb x 0x23) false true) (free w) e)) (ap (λ (l : List ℕ). x ∷ l) (form_word w form v vs (and_second (cond (eqb x 0x23) false true) (free w) e)))
  where
    unmarked : (b : Bool) → cond b false true ≡ true → b ≡ false
    unmarked true e = sym e
    unmarked false e = refl

-- the form of words, a `#` behind each
abbrev form_of : List (List ℕ) → List ℕ
form_of [] = []
form_of (w ∷ ws) = w ++ (0x23 ∷ form_of ws)

-- words, each with its number, behind a text
abbrev pub spoken : List ℕ → List (List ℕ) → List ℕ → List ℕ
spoken s [] vs = s
spoken s (w ∷ ws) [] = s
spoken s (w ∷ ws) (v ∷ vs) = spoken (s ++ number_text w v) ws vs

-- a form filled in is its words, each with its number
pub forms : (s : List ℕ) (ws : List (List ℕ)) (vs : List ℕ) → every free ws ≡ true → length ws ≡ length vs → s ++ numbers_text (form_of ws) vs ≡ spoken s ws vs
unfolding numbers_text
forms s [] vs e h = append-nil s
forms s (w ∷ ws) [] e h = absurd (omega arith)
forms s (w ∷ ws) (v ∷ vs) e h =
    ap (λ (l : List ℕ). s ++ l) (form_word w (form_of ws) v vs (and_first (free w) (every free ws) e))
    ∙ sym (append_assoc s (number_text w v) (numbers_text (form_of ws) vs))
    ∙ forms (s ++ number_text w v) ws vs (and_second (free w) (every free ws) e) (omega arith)

-- put behind a text
pub puts_forms : (ws : List (List ℕ)) (vs : List ℕ) {s d e f : List ℕ} {n m r : ℕ} → Puts s d n e m → Puts (numbers_text (form_of ws) vs) e m f r → every free ws ≡ true → length ws ≡ length vs → Puts (spoken s ws vs) d n f r
puts_forms ws vs {s} p q e h = puts_as (forms s ws vs e h) (puts_then p q)
