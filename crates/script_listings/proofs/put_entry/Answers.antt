-- `put_entry` puts the start and the length one behind the other.
use Rattle.script_listings.specs.Listings.{entry_text}
use Rattle.script_text.proofs.Puts.{puts_then}
use Rattle.script_listings.proofs.put_entry.Goals as goal

pub returns : goal.returns
unfolding entry_text
returns c = puts_then c.put_number_text-to.ensures c.put_number_text.ensures
