-- `number_in` moves what it has read up by ten and adds the next digit; sixteen digits fit the word.
use Rattle.decimals.proofs.Decimals.{Reading}
use Rattle.decimals.proofs.number_in.Given as goal

abbrev pub invariant-loop-digit : goal.invariant-loop-digit
invariant-loop-digit l = Reading l.p l.digit-index l.v
