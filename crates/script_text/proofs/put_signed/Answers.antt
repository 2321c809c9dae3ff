-- `put_signed` puts the size, behind `-` where the number is below 0.
use mir.Facts.{to_z-of_z}
use Rattle.script_text.proofs.Texts.{signed_high, signed_low}
use Rattle.script_text.proofs.put_signed.Goals as goal

pub returns-then-z-lt0 : goal.returns-then-z-lt0
returns-then-z-lt0 c =
    rw (signed_low c.args.z _ c.unsigned_abs-size.result (to_z-of_z c.ranges.z) c.unsigned_abs-size.ensures.value c.if-z-lt0.true) c.put_number_text.ensures

pub returns : goal.returns
returns c =
    rw (signed_high c.args.z _ c.unsigned_abs-size.result (to_z-of_z c.ranges.z) c.unsigned_abs-size.ensures.value c.if-z-lt0.false) c.put_number.ensures
