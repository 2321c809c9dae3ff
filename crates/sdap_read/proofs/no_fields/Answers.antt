-- `no_fields` is the definition, field for field.
use mathlib.Core.Path.{refl}
use Rattle.sdap.specs.Layout.{no_fields}
use Rattle.sdap_read.proofs.no_fields.Goals as goal

pub returns : goal.returns
unfolding no_fields
returns c = refl
