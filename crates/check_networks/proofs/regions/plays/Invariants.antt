use Rattle.std.proofs.Common.{◌≡◌}
use Rattle.check_networks.proofs.regions.plays.Given as goal

abbrev pub invariant-times : goal.invariant-times
invariant-times l = l.batch.tables ≡ l.network
