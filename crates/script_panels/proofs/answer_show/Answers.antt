-- `answer_show` asks whether the panel is there; the record it takes is then one of the eight, and its text ends the line.
use Prim.Native.Nat.{ℕ, ◌≤◌}
use mathlib.Core.Path.{◌≡◌, sym, ◌∙◌}
use mathlib.Core.Bool.{Bool, true, ◌&&◌}
use native.Mathlib.Omega.{arith}
use lib.Dec.{leb}
use borrow.Author.Tests.{leb-true}
use Rattle.laws.proofs.Conditions.{and_first, and_second}
use Rattle.script_text.proofs.Puts.{puts_then}
use Rattle.script_answers.specs.Answers.{writes}
use Rattle.script_panels.specs.Panels.{is_there, shown_at}
use Rattle.script_panels.proofs.answer_show.Goals as goal

one_of_eight : (count link : ℕ) (there : Bool) → there ≡ is_there count link → there ≡ true → (1 ≤ link) × (link ≤ 8)
unfolding is_there
one_of_eight count link there e h =
    let bounds = and_first (leb 1 link && leb link 8) (leb link count) (sym e ∙ h) in
    (leb-true 1 link (and_first (leb 1 link) (leb link 8) bounds), leb-true link 8 (and_second (leb 1 link) (leb link 8) bounds))

pub returns-then-not-is_there : goal.returns-then-not-is_there
unfolding shown_at
returns-then-not-is_there c =
    rw (← c.number_at-link.ensures, ← c.is_there.ensures, c.if-not-is_there.true) c.say.ensures

pub overflow_sub-p : goal.overflow_sub-p
overflow_sub-p c =
    (one_of_eight c.args.b.count c.number_at-link.result c.is_there.result c.is_there.ensures c.if-not-is_there.false).0

pub bounds-b-link : goal.bounds-b-link
bounds-b-link c =
    let (h, l) = one_of_eight c.args.b.count c.number_at-link.result c.is_there.result c.is_there.ensures c.if-not-is_there.false in
    omega (arith, h, l)

pub returns : goal.returns
unfolding shown_at writes
returns c =
    rw (← c.number_at-link.ensures, ← c.is_there.ensures, c.if-not-is_there.false)
    (record { box_is = c.ended.ensures.box_is; text_is = puts_then c.put_panel-at.ensures c.ended.ensures.text_is })
