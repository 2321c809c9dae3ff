-- `text_length` is the place of the first 00h, or the whole length where there is none.
use Rattle.std.proofs.Common.{ℕ, ◌+◌, ◌≤◌, ◌≡◌, refl, sym, ap, ◌∙◌, Bool, true, false, cond, List, [], ◌∷◌, length, eqb, nat_lt}
use Rattle.std.proofs.Common.{rules, tests, arith, Some, None}
use Rattle.std.proofs.lemmas.Iterator.{YieldsList-from_slice}
use Rattle.std.proofs.lemmas.Iterator.Search.{position_from_yields_List}
use Rattle.std.proofs.lemmas.List.Recursion.{is_position_or_len}
use Rattle.std.specs.List.{position_or_len}
use Rattle.std.specs.Option.{unwrap_or}
use borrow.Author.Tests.{ltb-false}
use Rattle.sdap.specs.Rules.{before_zero, text_length}
use Rattle.sdap.proofs.Texts.{text_fits}
use Rattle.sdap.proofs.text_length.Goals as goal

counted : (t : List ℕ) → text_length t ≡ position_or_len (λ x. eqb x 0) t
unfolding before_zero
counted t = is_position_or_len text_length (λ x. eqb x 0) refl (λ x xs. each (eqb x 0) x xs) t
  where
    each : (b : Bool) (x : ℕ) (xs : List ℕ) → length (cond b [] (x ∷ before_zero xs)) ≡ cond b 0 (1 + length (before_zero xs))
    each true x xs = refl
    each false x xs = omega arith

first : (n m : ℕ) → n ≤ m → unwrap_or (cond (nat_lt n m) (Some n) None) m ≡ n
first n m h = go (nat_lt n m) refl
  where
    go : (b : Bool) → nat_lt n m ≡ b → unwrap_or (cond b (Some n) None) m ≡ n
    go true e = refl
    go false e = omega (arith, ltb-false n m e)

pub returns : goal.returns
returns c =
    let t = c.args.t.now in
    let bytes = YieldsList-from_slice {s = c.iter.result} t cc in
    let e = position_from_yields_List (λ x. eqb x 0) _ _ c.position.result c.position.ensures.ran bytes (λ x b q k. search (rules, tests)) in
    let f : position_or_len (λ x. eqb x 0) t ≤ length t = rw (← counted t) (text_fits t) in
    c.unwrap_or.ensures ∙ ap (λ o. unwrap_or o (length t)) e ∙ first _ _ f ∙ sym (counted t)
