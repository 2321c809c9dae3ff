-- `judge` asks the count, the panels by themselves, and their pairs in turn; the pairs are judged by the IDs that were gathered.
use Prim.Native.Nat.{ℕ, ◌-◌}
use mathlib.Core.Path.{◌≡◌, sym, ap, subst, ◌∙◌}
use mathlib.Core.Bool.{Bool, true, false, cond, ◌&&◌}
use mathlib.Core.List.{List, map}
use lib.Dec.{leb}
use lib.ListN.{get_or}
use borrow.Author.Rules.{rules}
use Rattle.std.specs.Prelude.{Some, None}
use Rattle.laws.specs.Lists.{every}
use Rattle.panels.specs.Valid.{ok_panel, distinct, in_use, valid}
use Rattle.panels.specs.declared.DisplayBox.{DisplayBox}
use Rattle.box_rules.specs.Pairs.{no_ids, bare, judged}
use Rattle.box_rules.specs.Ring.{Sees, all_apart}
use Rattle.box_rules.specs.declared.Ids.{Ids}
use Rattle.box_rules.specs.declared.Seen.{Seen}
use Rattle.box_rules.proofs.Distinct.{distinct_gathered}
use Rattle.box_rules.proofs.Ring.{Named, named, ring_distinct}
use Rattle.box_rules.proofs.judge.Goals as goal

abbrev Counted : DisplayBox → Bool → Type 0
Counted b r = (leb 1 b.count && leb b.count 8) ≡ r

miscounted : (b : DisplayBox) → Counted b false → None ≡ judged b
unfolding valid
miscounted b e = sym (rw e)

spoiled : (b : DisplayBox) → Counted b true → every ok_panel (in_use b) ≡ false → None ≡ judged b
unfolding valid
spoiled b e f = sym (rw (e, f))

-- the pairs are those of the panels in use
pairs : (b : DisplayBox) (s : Seen) → Sees b.panels b.count s → all_apart s.ring ≡ distinct (in_use b)
pairs b s seen =
    let called : (k : ℕ) → Named (get_or s.ids k no_ids) =
    λ k. subst (λ (is : List Ids). Named (get_or is k no_ids)) (sym seen.ids_are) (named (in_use b) (8 - b.count) k seen.good) in
    ring_distinct s.ids s.ring seen.rings seen.eight called
    ∙ ap (λ (is : List Ids). distinct (map bare is)) seen.ids_are ∙ distinct_gathered (in_use b) (8 - b.count)

decided : (b : DisplayBox) (s : Seen) (r : Bool) → Counted b true → Sees b.panels b.count s → r ≡ all_apart s.ring → cond r (Some s.ids) None ≡ judged b
unfolding valid
decided b s r e seen a = rw (a, pairs b s seen, seen.ids_are) (sym (rw (e, seen.good)))

pub returns-then-not-contains : goal.returns-then-not-contains
returns-then-not-contains c = miscounted c.args.b (search rules)

pub returns-in_err-seen : goal.returns-in_err-seen
returns-in_err-seen c = c.from_residual.ensures ∙ spoiled c.args.b (search rules) c.in_err-seen.ensures

pub returns-then-not-all_apart : goal.returns-then-not-all_apart
returns-then-not-all_apart c = decided c.args.b c.in_ok-seen.seen false (search rules) c.in_ok-seen.ensures c.if-not-all_apart.ensures

pub returns : goal.returns
returns c = decided c.args.b c.in_ok-seen.seen true (search rules) c.in_ok-seen.ensures c.if-not-all_apart.ensures
