use Rattle.kpn_pool.proofs.Common.{◌≡◌, count_by, take, is_source, AreFedBelow}
use Rattle.kpn_pool.proofs.fed.were_fed.Given as goal

abbrev pub invariant-channels : goal.invariant-channels
invariant-channels l = record {
  source : l.source ≡ count_by is_source (take l.c l.network.channels);
  so_far : AreFedBelow l.network l.lists l.view l.c;
}
