-- `configuration_in` lays the panels of a line that writes at most sixteen, and otherwise none.
use Prim.Native.Nat.{ℕ}
use mathlib.Core.List.{List}
use mathlib.Core.Path.{◌∙◌, ◌≡◌, ap, subst, sym}
use native.Mathlib.Omega.{arith}
use lib.ListN.{length}
use Rattle.laws.specs.Bytes.{Sent, sent}
use Rattle.script_boxes.specs.Boxes.{configuration, panels_in}
use Rattle.script_boxes.proofs.Configurations.{few_panels, many_panels}
use Rattle.script_boxes.proofs.configuration_in.Goals as goal

pub returns-then-n-gt16 : goal.returns-then-n-gt16
returns-then-n-gt16 c =
    let a = c.args in
    let h = c.if-n-gt16.true in
    let e = many_panels a.line.now (omega (arith, c.panels_in-n.ensures)) in
    record { length_is = sym (ap length e); area_is = sym (ap (λ (b : List ℕ). sent b a.area.now) e) }

pub returns : goal.returns
returns c =
    let a = c.args in
    let line = a.line.now in
    let n : c.panels_in-n.result ≡ panels_in line = c.panels_in-n.ensures in
    let e = few_panels line (omega arith) in
    subst (λ (b : List ℕ). Sent b c.put_panels.result a.area.now c.put_panels.new.area) (ap (λ (m : ℕ). configuration m 1 line) n ∙ sym e) c.put_panels.ensures
