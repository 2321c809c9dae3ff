-- `put_listing` puts its three parts one behind the other.
use Rattle.script_text.proofs.Puts.{puts_then}
use Rattle.script_listings.specs.Listings.{plain_text}
use Rattle.script_listings.proofs.put_listing.Goals as goal

pub returns : goal.returns
unfolding plain_text
returns c = puts_then (puts_then c.put-a.ensures c.put_entries-e.ensures) c.put_end.ensures
