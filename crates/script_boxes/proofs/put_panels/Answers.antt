use Prim.Native.Nat.{◌*◌, ◌+◌, ◌<◌, ℕ}
use mathlib.Core.Path.{◌∙◌, ◌≡◌, ap, sym}
use native.Mathlib.Omega.{arith}
use lib.Seq.{paste}
use Rattle.script_boxes.specs.Boxes.{configuration}
use Rattle.script_words.proofs.Areas.{front_three, front_whole}
use Rattle.script_boxes.proofs.Configurations.{configuration_length, family_of_lem, group_of, unit_of_lem}
use Rattle.script_words.proofs.Laws.{number_most}
use Rattle.script_boxes.proofs.put_panels.Goals as goal

pub overflow_cast-area : goal.overflow_cast-area
overflow_cast-area c =
    let e = c.number_at.ensures in
    let h = number_most 255 (c.loop-i.i * 3 + 2) c.args.line.now in
    omega arith

pub overflow_cast-area-in-loop-i : goal.overflow_cast-area-in-loop-i
overflow_cast-area-in-loop-i c =
    let e = c.number_at-in-loop-i.ensures in
    let h = number_most 255 (c.loop-i.i * 3 + 3) c.args.line.now in
    omega arith

pub loop-i-preserved : goal.loop-i-preserved
loop-i-preserved c =
    let a = c.args in
    let line = a.line.now in
    let n = a.n in
    let i = c.loop-i.i in
    let size = configuration_length n 1 line in
    let t : i < n = omega arith in
    let e : i * 3 + 3 ≡ (i + 1) * 3 = omega arith in
    let family = c.letter_at.ensures ∙ sym (family_of_lem n i line t) in
    let group = c.number_at.ensures ∙ sym (group_of n i line t) in
    let unit = c.number_at-in-loop-i.ensures ∙ sym (unit_of_lem n i line t) in
    let laid = front_three a.area.now (configuration n 1 line) (i * 3) _ _ _ _ (omega arith) (omega arith) family group unit c.loop-i.invariant in
    laid ∙ ap (paste a.area.now 0 (configuration n 1 line)) e

pub returns : goal.returns
returns c =
    let a = c.args in
    let line = a.line.now in
    let size = configuration_length a.n 1 line in
    let q : c.loop-i.i ≡ a.n = omega arith in
    front_whole a.area.now (configuration a.n 1 line) (a.n * 3) c.loop-i.area (sym size) (c.loop-i.invariant ∙ ap (λ (j : ℕ). paste a.area.now 0 (configuration a.n 1 line) (j * 3)) q)
