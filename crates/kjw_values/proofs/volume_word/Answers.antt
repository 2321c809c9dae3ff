-- `volume_word` needs four digits at most: a byte is under 1000, so the others are `0`.
use Prim.Native.Nat.{◌<◌}
use mathlib.Core.Path.{sym, ◌∙◌}
use native.Mathlib.Omega.{arith}
use Rattle.decimals.proofs.Decimals.{three_digits}
use Rattle.kjw_values.proofs.volume_word.Goals as goal

pub returns : goal.returns
returns c =
    let v = c.args.v in
    let h : v < 1000 = omega arith in
    c.four_digits.ensures ∙ sym (three_digits 13 v h ∙ rw (c.from.ensures, three_digits 1 v h))
