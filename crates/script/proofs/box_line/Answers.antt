-- `box_line` puts the box after the order back beside the receivers.
use mathlib.Core.Path.{ap}
use Rattle.panels.specs.declared.DisplayBox.{DisplayBox}
use Rattle.script.specs.Answers.{on_box}
use Rattle.script.proofs.box_line.Goals as goal

pub returns : goal.returns
unfolding on_box
returns c =
    let o = c.answer_order-a.ensures in
    let s = c.args.s in
    record { held_is = ap (λ (b : DisplayBox). record { made = b; receivers = s.receivers }) o.box_is; text_is = o.text_is }
