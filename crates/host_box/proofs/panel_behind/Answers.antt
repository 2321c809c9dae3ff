-- `panel_behind` asks the rules and the link's bounds in turn; a box that keeps the rules has at most eight panels, so the place is one of the eight.
use Prim.Native.Nat.{◌≤◌}
use mathlib.Core.Path.{◌≡◌, sym, ◌∙◌}
use mathlib.Core.Bool.{true}
use native.Mathlib.Omega.{arith}
use borrow.Author.Rules.{rules}
use Rattle.panels.specs.Valid.{valid}
use Rattle.ways_in.proofs.Doors.{valid_count}
use Rattle.host_box.proofs.panel_behind.Goals as goal

pub offset_bounds-b-link : goal.offset_bounds-b-link
offset_bounds-b-link c =
    let v : valid c.args.b ≡ true = sym c.is_valid.ensures ∙ c.if-not-is_valid.false in
    let last : c.args.link ≤ c.args.b.count = search rules in
    omega (arith, valid_count c.args.b v, last)

pub bounds-b-link : goal.bounds-b-link
bounds-b-link c =
    let v : valid c.args.b ≡ true = sym c.is_valid.ensures ∙ c.if-not-is_valid.false in
    let last : c.args.link ≤ c.args.b.count = search rules in
    omega (arith, valid_count c.args.b v, last)
