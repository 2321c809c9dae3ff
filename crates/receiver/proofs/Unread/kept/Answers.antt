-- 512 zeros stand behind the bytes.
use mathlib.Core.Path.{◌∙◌}
use Rattle.receiver.specs.Both.{both}
use Rattle.receiver.specs.Calls.{holding}
use Rattle.receiver.proofs.Parts.{sent_zeros}
use Rattle.receiver.proofs.Unread.kept.Goals as goal

pub returns : goal.returns
unfolding holding
returns c = rw (c.len.ensures, c.lay.ensures ∙ sent_zeros (both c.args.self))
