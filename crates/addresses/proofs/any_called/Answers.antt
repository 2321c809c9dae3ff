-- `any_called` asks the panels in turn, and each by its name.
use Rattle.std.proofs.Common.{◌≡◌, ℕ, Bool, ◌||◌, List, [], ◌∷◌, map, refl, ap, ◌∙◌, rules}
use Rattle.std.specs.List.{list_any}
use Rattle.std.proofs.lemmas.Iterator.{YieldsList-from_slice}
use Rattle.std.proofs.lemmas.Iterator.Search.{any_from_yields_List}
use Rattle.box_rules.specs.declared.Ids.{Ids}
use Rattle.steps.specs.Addressing.{is_called, any_called}
use Rattle.addresses.specs.Doors.{id_name}
use Rattle.addresses.proofs.any_called.Goals as goal

any_name : (m : List ℕ) (ids : List Ids) → list_any (λ (p : Ids). is_called m (id_name p)) ids ≡ any_called m (map id_name ids)
any_name m [] = refl
any_name m (p ∷ ids) = ap (λ (b : Bool). is_called m (id_name p) || b) (any_name m ids)

pub returns : goal.returns
returns c =
    let m = c.args.m.now in
    any_from_yields_List (λ (p : Ids). is_called m (id_name p)) _ _ _ c.any.ensures.ran (YieldsList-from_slice c.args.ids cc) (λ x b q k. search rules)
    ∙ any_name m c.args.ids
