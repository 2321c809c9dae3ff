-- `digits4` takes the last four of the ten digits.
use Rattle.decimals.specs.Decimals.{in_digits}
use Rattle.decimals.proofs.digits4.Goals as goal

pub returns : goal.returns
unfolding in_digits
returns c = rw c.ten_digits-d.ensures
