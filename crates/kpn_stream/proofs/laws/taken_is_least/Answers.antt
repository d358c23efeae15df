use Rattle.kpn_stream.proofs.Listing.{taken_below, taken_whole}
use Rattle.kpn_stream.proofs.laws.taken_is_least.Goals as goal

pub returns-clause-below : goal.returns-clause-below
returns-clause-below c = taken_below

pub returns-clause-whole : goal.returns-clause-whole
returns-clause-whole c = taken_whole
