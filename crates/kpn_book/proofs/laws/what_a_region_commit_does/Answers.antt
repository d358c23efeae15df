use Rattle.kpn_book.proofs.Settled.{commits_at_stops}
use Rattle.kpn_book.proofs.laws.what_a_region_commit_does.Goals as goal

pub returns : goal.returns
returns c = commits_at_stops
