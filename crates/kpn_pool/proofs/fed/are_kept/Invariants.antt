use Rattle.kpn_pool.specs.Fed.{AreSinksKeptBelow}
use Rattle.kpn_pool.proofs.fed.are_kept.Given as goal

abbrev pub invariant-channels : goal.invariant-channels
invariant-channels l = AreSinksKeptBelow l.book l.c
