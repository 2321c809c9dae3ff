-- Each promise at the door allows one outcome: its equations have the same right sides.
use mathlib.Core.Path.{◌≡◌, sym, ◌∙◌}
use Rattle.panels.specs.declared.WRecord.{WRecord}
use Rattle.vmc.specs.Orders.{carried, says_of}
use Rattle.vmc_asks.specs.declared.Order.{Order}
use Rattle.vmc_tells.specs.declared.Says.{Says}

pub obey_one : (w : WRecord) (o : Order) (r r' : WRecord) → r ≡ carried o w → r' ≡ carried o w → r ≡ r'
obey_one w o r r' p q = p ∙ sym q

pub tell_one : (w : WRecord) (o : Order) (r r' : Says) → r ≡ says_of o w → r' ≡ says_of o w → r ≡ r'
tell_one w o r r' p q = p ∙ sym q
