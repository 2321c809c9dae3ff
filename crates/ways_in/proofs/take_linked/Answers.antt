-- `take_linked` is refused where the door is shut, and else is the turn of the panel that it opens to.
use Prim.Native.Nat.{ℕ}
use mathlib.Core.Path.{◌≡◌, refl, sym}
use mathlib.Core.List.{List}
use lib.ListN.{length}
use native.Mathlib.Omega.{arith}
use Rattle.std.specs.Prelude.{Ok, Err}
use Rattle.terms.specs.declared.Answer.{Answer}
use Rattle.panels.specs.declared.DisplayBox.{DisplayBox}
use Rattle.steps.specs.Step.{step}
use Rattle.steps.proofs.Refusals.{none_sent}
use Rattle.addresses.specs.declared.Line.{Line}
use Rattle.addresses.proofs.Refusals.{shut_undone}
use Rattle.ways_in.specs.Promise.{Steps, message_of}
use Rattle.ways_in.specs.Turns.{resting}
use Rattle.ways_in.specs.declared.Outcome.{Outcome}
use Rattle.ways_in.proofs.Doors.{AtDoor, turned_away, let_in, lends, read, place_read}
use Rattle.ways_in.proofs.Stores.{refuses, stored, acted}
use Rattle.ways_in.proofs.take_linked.Goals as goal

shut : (line : Line) (b : DisplayBox) (l : ℕ) (m area : List ℕ) (a : Answer) (r : Outcome) → AtDoor b (message_of line l m area) (Err a) → r ≡ resting b a → Steps b (message_of line l m area) r area
shut line b l m area a r (turned_away _ e) q =
    refuses b (message_of line l m area) area a r e q (none_sent l area (message_of line l m area) (lends line l m area))

opens_to : (line : Line) (b : DisplayBox) (l : ℕ) (m area : List ℕ) (i : ℕ) → AtDoor b (message_of line l m area) (Ok i) → step b (message_of line l m area) ≡ stored b (message_of line l m area) i
opens_to line b l m area i (let_in _ e) = e

pub refused-requires : goal.refused-requires
refused-requires c =
    let a = c.args in
    shut_undone a.line _ a.link a.m.now _ _ (sym c.in-Err.ensures.0)

pub panel_at-p-requires : goal.panel_at-p-requires
panel_at-p-requires c =
    let a = c.args in
    omega (arith, place_read a.line c.ids_of-ids.result a.link a.m.now (length a.area.now) _ c.in-Ok.ensures.1 (sym c.in-Ok.ensures.0))

pub returns-in-Err : goal.returns-in-Err
returns-in-Err c =
    let a = c.args in
    let ids = c.ids_of-ids in
    shut a.line a.b a.link a.m.now a.area.now _ _
    (read a.line a.b a.link a.m.now a.area.now ids.result _ (ids.ensures a.b c.judge.ensures) (sym c.in-Err.ensures.0)) c.refused.ensures

pub returns-in-Ok : goal.returns-in-Ok
returns-in-Ok c =
    let a = c.args in
    let ids = c.ids_of-ids in
    let at = read a.line a.b a.link a.m.now a.area.now ids.result _ (ids.ensures a.b c.judge.ensures) (sym c.in-Ok.ensures.0) in
    acted a.line a.b a.link a.m.now a.area.now _ c.panel_at-p.result c.act-t.result _ _
    (opens_to a.line a.b a.link a.m.now a.area.now _ at)
    c.panel_at-p.ensures c.act-t.ensures c.with_panel-after.ensures refl refl c.is_done.ensures
