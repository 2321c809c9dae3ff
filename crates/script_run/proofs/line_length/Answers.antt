-- `line_length` is what the store has of the line.
use mathlib.Core.Path.{◌∙◌, sym}
use lib.ListN.{length-take}
use Rattle.script_run.proofs.line_length.Goals as goal

pub returns : goal.returns
returns c = c.min.ensures ∙ sym (length-take c.args.kept c.args.store.now)
