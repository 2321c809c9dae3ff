-- Words are of the kinds given where there are as many, and each is of its kind.
use mathlib.Core.Bool.{Bool, ◌&&◌, false, true}
use mathlib.Core.List.{List, [], ◌∷◌}
use mathlib.Core.Path.{◌∙◌, ◌≡◌, ap, refl, sym}
use Prim.Native.Nat.{ℕ}
use lib.Dec.{eqb, eqb-suc-zero, eqb-zero-suc, eqb-suc-suc}
use lib.ListN.{length}
use Rattle.std.specs.List.{list_all, zip}
use Rattle.script_words.specs.Kinds.{is_kind, shaped}
use Rattle.script_words.specs.declared.Kind.{Kind}

abbrev pub is_of : Kind × List ℕ → Bool
is_of p = is_kind p.0 p.1

pub shaped_zip : (kinds : List Kind) (ws : List (List ℕ)) → shaped kinds ws ≡ (eqb (length ws) (length kinds) && list_all is_of (zip kinds ws))
unfolding shaped
shaped_zip [] [] = refl
shaped_zip [] (w ∷ ws) = sym (rw (eqb-suc-zero (length ws)))
shaped_zip (k ∷ ks) [] = sym (rw (eqb-zero-suc (length ks)))
shaped_zip (k ∷ ks) (w ∷ ws) = ap (λ (b : Bool). is_kind k w && b) (shaped_zip ks ws) ∙ turn (is_kind k w) (eqb (length ws) (length ks)) (list_all is_of (zip ks ws)) ∙ ap (λ (b : Bool). b && (is_kind k w && list_all is_of (zip ks ws))) (sym (eqb-suc-suc (length ws) (length ks)))
  where
    turn : (a b c : Bool) → (a && (b && c)) ≡ (b && (a && c))
    turn true b c = refl
    turn false true c = refl
    turn false false c = refl
