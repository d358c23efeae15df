use Rattle.std.proofs.Common.{◌≡◌}
use Rattle.kpn_region.specs.Batch.{IsFresh}
use Rattle.check_networks.proofs.regions.claim_all.Given as goal

abbrev pub invariant-processes : goal.invariant-processes
invariant-processes l = record { tables : l.batch.tables ≡ l.network; fresh : IsFresh l.batch }

abbrev pub invariant-channels : goal.invariant-channels
invariant-channels l = record { tables : l.batch.tables ≡ l.network; fresh : IsFresh l.batch }
