-- `take_udp` refuses where nobody is called, and else gives every panel that is called its turn.
use mathlib.Core.Path.{◌≡◌, refl, sym, ap, ◌∙◌}
use mathlib.Core.Bool.{Bool, true, false}
use mathlib.Core.List.{List, [], map}
use Prim.Native.Nat.{ℕ}
use lib.Dec.{eqb}
use Rattle.std.specs.Prelude.{Err}
use Rattle.panels.specs.declared.Panel.{Panel}
use Rattle.panels.specs.declared.DisplayBox.{DisplayBox}
use Rattle.terms.specs.Answers.{number_of}
use Rattle.terms.specs.declared.Answer.{Answer}
use Rattle.steps.specs.Messages.{udp, names}
use Rattle.steps.specs.Addressing.{any_called}
use Rattle.steps.specs.Step.{with_panels, to_nobody, nothing, step}
use Rattle.steps.proofs.Door.{nobody_shut}
use Rattle.sdcp_asks.proofs.Refusals.{cast_undone}
use Rattle.ways_in.specs.Promise.{Steps}
use Rattle.ways_in.specs.Turns.{resting}
use Rattle.ways_in.specs.declared.Outcome.{Outcome}
use Rattle.ways_in.proofs.Calls.{uncalled, idle, obeyed}
use Rattle.ways_in.proofs.Doors.{valid_count, called_read, called_valid}
use Rattle.ways_in.proofs.Stores.{steps, refuses}
use Rattle.box_rules.specs.Pairs.{ids_in}
use Rattle.box_rules.specs.declared.Ids.{Ids}
use Rattle.sdcp_asks.specs.Asks.{fault_answer, cast_of}
use Rattle.sdcp_asks.specs.declared.Fault.{Fault}
use Rattle.sdcp_asks.specs.declared.Fault.TheVariants.{Refused, Broken, NotUnderstood}
use Rattle.terms.specs.declared.Part.TheVariants.{Request, Item, TooLong, NotMatching, Count, Checksum}
use Rattle.addresses.specs.Doors.{id_name}
use Rattle.ways_in.proofs.take_udp.Goals as goal

-- the box rests as it was, with an answer
rests : (b : DisplayBox) (m : List ℕ) (a : Answer) (r : Outcome) → step b (udp m) ≡ record { box = b; answer = a; back = nothing } → r ≡ resting b a → Steps b (udp m) r []
rests b m a r e f =
    steps
    b
    (udp m)
    r
    []
    (record { box = b; answer = a; back = nothing })
    e
    (ap (λ (x : Outcome). x.after) f) (ap (λ (x : Outcome). x.answer) f) (ap (λ (x : Outcome). x.len) f) (ap (λ (x : Outcome). x.done) f) refl

-- a fault's answer is not 0
fault_undone : (m : List ℕ) (f : Fault) → cast_of m ≡ Err f → eqb (number_of (fault_answer f)) 0 ≡ false
fault_undone m (Refused a) e = cast_undone m a e
fault_undone m (Broken Request) e = refl
fault_undone m (Broken Item) e = refl
fault_undone m (Broken TooLong) e = refl
fault_undone m (Broken NotMatching) e = refl
fault_undone m (Broken Count) e = refl
fault_undone m (Broken (Checksum place)) e = refl
fault_undone m NotUnderstood e = refl

-- somebody is called, read off the IDs
some : (b : DisplayBox) (m : List ℕ) (ids : List Ids) (y : Bool) → ids ≡ ids_in b → y ≡ any_called m (map id_name ids) → y ≡ true → any_called m (names b) ≡ true
some b m ids y e g h = sym (called_read b m ids e) ∙ sym g ∙ h

pub refused-requires : goal.refused-requires
refused-requires c =
    let a = c.args in
    ap (λ (x : Answer). eqb (number_of x) 0) c.to_nobody.ensures ∙ nobody_shut a.m.now

pub returns-then-not-any_called : goal.returns-then-not-any_called
returns-then-not-any_called c =
    let a = c.args in
    let ids = c.ids_of-ids in
    let q = c.any_called in
    let n : any_called a.m.now (names a.b) ≡ false =
    sym (called_read a.b a.m.now ids.result (ids.ensures a.b c.judge.ensures)) ∙ sym q.ensures ∙ c.if-not-any_called.true in
    refuses a.b (udp a.m.now) [] (to_nobody a.m.now) _ (uncalled a.b a.m.now n) (c.refused.ensures ∙ rw c.to_nobody.ensures) refl

pub refused-requires-in-Err : goal.refused-requires-in-Err
refused-requires-in-Err c =
    ap (λ (x : Answer). eqb (number_of x) 0) c.from.ensures ∙ fault_undone c.args.m.now c.in-Err.fault (sym c.in-Err.ensures)

pub obey_all-panels-requires : goal.obey_all-panels-requires
obey_all-panels-requires c =
    let a = c.args in
    let ids = c.ids_of-ids in
    let q = c.any_called in
    valid_count a.b (called_valid a.b a.m.now (some a.b a.m.now ids.result q.result (ids.ensures a.b c.judge.ensures) q.ensures c.if-not-any_called.false))

pub returns-in-Err : goal.returns-in-Err
returns-in-Err c =
    let a = c.args in
    let ids = c.ids_of-ids in
    let q = c.any_called in
    let n = some a.b a.m.now ids.result q.result (ids.ensures a.b c.judge.ensures) q.ensures c.if-not-any_called.false in
    rests a.b a.m.now _ _ (idle a.b a.m.now c.in-Err.fault n (sym c.in-Err.ensures)) (c.refused-in-Err.ensures ∙ ap (resting a.b) c.from.ensures)

pub returns-in-Ok : goal.returns-in-Ok
returns-in-Ok c =
    let a = c.args in
    let ids = c.ids_of-ids in
    let q = c.any_called in
    let n = some a.b a.m.now ids.result q.result (ids.ensures a.b c.judge.ensures) q.ensures c.if-not-any_called.false in
    let stepped = obeyed a.b a.m.now c.in-Ok.o (called_valid a.b a.m.now n) n (sym c.in-Ok.ensures) in
    steps a.b (udp a.m.now) _ [] _ stepped (ap (λ (ps : List Panel). with_panels a.b ps) c.obey_all-panels.ensures) refl refl refl refl
