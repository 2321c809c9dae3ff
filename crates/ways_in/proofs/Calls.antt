-- A packet by UDP: where nobody is called it is refused; else every panel that is called obeys, or all stay where there is
-- nothing to obey.
use Prim.Native.Nat.{ℕ, suc}
use mathlib.Core.Path.{◌≡◌, refl, ap, ◌∙◌}
use mathlib.Core.Bool.{Bool, true, false}
use mathlib.Core.List.{List, [], ◌∷◌}
use lib.ListN.{get_or}
use Rattle.std.specs.Prelude.{Ok, Err}
use Rattle.laws.specs.Runs.{each, first_each}
use Rattle.laws.proofs.Runs.{each_same, first_called}
use Rattle.terms.specs.declared.Answer.TheVariants.{Done}
use Rattle.panels.specs.Valid.{valid}
use Rattle.panels.specs.declared.Panel.{Panel}
use Rattle.panels.specs.declared.DisplayBox.{DisplayBox}
use Rattle.vmc.specs.Orders.{carried}
use Rattle.vmc_asks.specs.declared.Order.{Order}
use Rattle.sdcp_asks.specs.Asks.{fault_answer, cast_of, Heard}
use Rattle.sdcp.specs.Replies.{answer_of, turned}
use Rattle.sdcp_asks.specs.declared.Fault.{Fault}
use Rattle.sdcp_asks.specs.declared.Fault.TheVariants.{Refused, Broken, NotUnderstood}
use Rattle.steps.specs.Messages.{udp, Name, nobody, name_of, names}
use Rattle.steps.specs.Addressing.{is_called, addressed, any_called}
use Rattle.steps.specs.Step.{with_w, with_panels, to_nobody, door, turn, nothing, passed, refused, step}
use Rattle.steps.proofs.Door.{nobody_shut}
use Rattle.ways_in.specs.Turns.{heeded}
use Rattle.steps.proofs.Validity.{valid_names}

pub uncalled : (b : DisplayBox) (m : List ℕ) → any_called m (names b) ≡ false → step b (udp m) ≡ refused b (udp m) (to_nobody m)
unfolding step door
uncalled b m e = rw (e, nobody_shut m)

pub called : (b : DisplayBox) (m : List ℕ) → any_called m (names b) ≡ true → step b (udp m) ≡ passed (names b) b (udp m)
unfolding step door
called b m e = rw e

-- a fault leaves every panel as it is
idle_turn : (m : List ℕ) (f : Fault) (p : Panel) → with_w p (turned m (Err f) p.w).after ≡ p
unfolding turned
idle_turn m (Refused a) p = refl
idle_turn m (Broken x) p = refl
idle_turn m NotUnderstood p = refl

pub idle : (b : DisplayBox) (m : List ℕ) (f : Fault) → any_called m (names b) ≡ true → cast_of m ≡ Err f → step b (udp m) ≡ record { box = b; answer = fault_answer f; back = nothing }
unfolding turn
idle b m f e q =
    let s : each (addressed (names b) (udp m)) (λ (p : Panel). (turn (udp m) p).after) b.panels ≡ b.panels = each_same (addressed (names b) (udp m)) (λ (p : Panel). (turn (udp m) p).after) b.panels (λ p. ap (λ (x : Heard). with_w p (turned m x p.w).after) q ∙ idle_turn m f p) in
    called b m e
    ∙ ap (λ (ps : List Panel). record { box = with_panels b ps; answer = answer_of (cast_of m); back = nothing }) s
    ∙ ap (λ (x : Heard). record { box = b; answer = answer_of x; back = nothing }) q

-- turns that are the same give the same panels
same : (ps : List Panel) (called : ℕ → Bool) (f g : Panel → Panel) → ((p : Panel) → f p ≡ g p) → each called f ps ≡ each called g ps
same [] called f g e = refl
same (p ∷ ps) called f g e = rw (e p, same ps (λ (i : ℕ). called (suc i)) f g e)

-- an order: those of the first panels that are called carry it out
pub obeyed : (b : DisplayBox) (m : List ℕ) (o : Order) → valid b ≡ true → any_called m (names b) ≡ true → cast_of m ≡ Ok o → step b (udp m) ≡ record { box = with_panels b (first_each (heeded m o) b.count b.panels); answer = Done; back = nothing }
unfolding turn turned addressed is_called heeded
obeyed b m o v e q =
    let f : (p : Panel) → (turn (udp m) p).after ≡ with_w p (carried o p.w) = λ p. ap (λ (x : Heard). with_w p (turned m x p.w).after) q in
    let s : each (addressed (names b) (udp m)) (λ (p : Panel). (turn (udp m) p).after) b.panels ≡ first_each (heeded m o) b.count b.panels =
    same b.panels (addressed (names b) (udp m)) (λ (p : Panel). (turn (udp m) p).after) (λ (p : Panel). with_w p (carried o p.w)) f
    ∙ ap (λ (ns : List Name). each (λ (i : ℕ). is_called m (get_or ns i nobody)) (λ (p : Panel). with_w p (carried o p.w)) b.panels) (valid_names b v)
    ∙ first_called name_of (is_called m) nobody (λ (p : Panel). with_w p (carried o p.w)) refl b.count b.panels in
    called b m e
    ∙ ap (λ (ps : List Panel). record { box = with_panels b ps; answer = answer_of (cast_of m); back = nothing }) s
    ∙ ap (λ (x : Heard). record { box = with_panels b (first_each (heeded m o) b.count b.panels); answer = answer_of x; back = nothing }) q
