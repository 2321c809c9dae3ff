-- `start` holds the box of no panels and eight times the empty receiver.
use mathlib.Core.Path.{ap, ◌∙◌}
use lib.ListN.{replicate}
use Rattle.panels.specs.Records.{no_box}
use Rattle.panels.specs.declared.DisplayBox.{DisplayBox}
use Rattle.receiver.specs.declared.Receiver.{Receiver}
use Rattle.script.specs.Answers.{at_start}
use Rattle.script_run.proofs.start.Goals as goal

pub returns : goal.returns
unfolding at_start
returns c =
    ap (λ (b : DisplayBox). record { made = b; receivers = replicate 8 c.empty_receiver.result }) c.no_panels.ensures
    ∙ ap (λ (r : Receiver). record { made = no_box; receivers = replicate 8 r }) c.empty_receiver.ensures
