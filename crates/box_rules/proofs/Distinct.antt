-- Distinct pairs by the IDs alone: two panels share their pair or not by family, group and unit, and a place without a panel shares with none.
use Prim.Native.Nat.{ℕ, zero, suc, ◌+◌, ◌-◌, ◌<◌}
use mathlib.Core.Path.{◌≡◌, refl, sym, ap, ◌∙◌}
use mathlib.Core.Bool.{Bool, ◌&&◌, and-false}
use mathlib.Core.List.{List, [], ◌∷◌, ◌++◌, map, map-append, append_assoc}
use lib.Dec.{eqb}
use lib.ListN.{length, get_or, set, take, replicate, length-map}
use lib.Seq.{set_at, take-suc, length-take-le}
use native.Mathlib.Omega.{arith}
use native.Mathlib.Numerals.{add-one}
use Rattle.laws.proofs.Conditions.{and_both}
use Rattle.laws.specs.Lists.{every}
use Rattle.panels.specs.Records.{family_w, past_end}
use Rattle.panels.specs.Valid.{share, apart, distinct}
use Rattle.box_rules.specs.Pairs.{ids_of, no_ids, bare, gathered}
use Rattle.panels.specs.declared.Panel.{Panel}

-- one panel more is gathered at its place
pub gather : (ps : List Panel) (i : ℕ) → i < 8 → i < length ps → set (gathered ps i) i (ids_of (get_or ps i past_end)) ≡ gathered ps (i + 1)
gather ps i h k =
    let e : 8 - i ≡ suc (8 - (i + 1)) = omega arith in
    let n : length (map ids_of (take i ps)) ≡ i = length-map (take i ps) ids_of ∙ length-take-le i ps (omega arith) in
    rw e
    (set_at (map ids_of (take i ps)) no_ids (replicate (8 - (i + 1)) no_ids) (ids_of (get_or ps i past_end)) i n
    ∙ sym (rw (add-one, take-suc ps i past_end, map-append, append_assoc)))

-- asked of what was gathered, a panel is apart from the same panels
every_gathered : (p : Panel) (l : List Panel) (k : ℕ) → every (apart p) (map bare (map ids_of l ++ replicate k no_ids)) ≡ every (apart p) l
unfolding share
every_gathered p [] zero = refl
every_gathered p [] (suc k) = rw (and-false (eqb p.family family_w)) (every_gathered p [] k)
every_gathered p (q ∷ l) k = ap (λ (b : Bool). apart p q && b) (every_gathered p l k)

pub distinct_gathered : (l : List Panel) (k : ℕ) → distinct (map bare (map ids_of l ++ replicate k no_ids)) ≡ distinct l
unfolding distinct share
distinct_gathered [] zero = refl
distinct_gathered [] (suc k) = and_both _ _ (every_gathered (bare no_ids) [] k) (distinct_gathered [] k)
distinct_gathered (p ∷ l) k = rw (every_gathered (bare (ids_of p)) l k) (ap (λ (b : Bool). every (apart p) l && b) (distinct_gathered l k))
