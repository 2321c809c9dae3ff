-- `state_named` takes the first of the states with these letters, as the definition does.
use Rattle.std.proofs.Common.{rules, tests, ◌≡◌, refl, ◌∙◌, Bool, List, [], ◌∷◌, ℕ, nat_eq}
use Rattle.std.specs.Cmp.Lexicographic.{pointwise}
use Rattle.std.specs.List.{find}
use Rattle.std.proofs.lemmas.Iterator.{YieldsList-from_slice}
use Rattle.std.proofs.lemmas.Iterator.Search.{find_from_yields_List}
use Rattle.laws.proofs.Library.{same_pointwise}
use Rattle.kjw_sets.specs.Words.{state_letters}
use Rattle.kjw_sets.specs.declared.State.{State}
use Rattle.kjw_asks.specs.Asks.{states, state_named, named_in}
use Rattle.kjw_asks.proofs.state_named.Goals as goal

abbrev has : List ℕ → State → Bool
has l s = pointwise nat_eq l (state_letters s)

found : (ss : List State) (l : List ℕ) → find (has l) ss ≡ named_in ss l
unfolding named_in
found [] l = refl
found (s ∷ ss) l = rw (same_pointwise l (state_letters s), found ss l)

pub returns : goal.returns
unfolding state_named
returns c =
    let l = c.args.letters in
    let f = find_from_yields_List (has l) _ _ c.find.result c.find.ensures.ran (YieldsList-from_slice states cc) (λ x b q k. search (rules, tests)) in
    c.copied.ensures ∙ f ∙ found states l
