-- `put_setting` puts a space, and behind it the words of what is said.
use mathlib.Core.Path.{ap, ◌∙◌}
use Rattle.decimals.proofs.Texts.{text_slice}
use Rattle.vmc_tells.specs.Texts.{text_of}
use Rattle.script_text.proofs.Puts.{puts_then}
use Rattle.script_show.proofs.put_setting.Goals as goal

pub returns : goal.returns
returns c =
    let words = c.as_slice.ensures ∙ text_slice c.spell.result (text_of c.tell.result) c.spell.ensures ∙ ap text_of c.tell.ensures in
    puts_then c.put-to.ensures (rw words at c.put.ensures)
