use Rattle.check_histories.proofs.Common.{refl, lit<, is_clogged_at-true}
use Rattle.check_histories.specs.Networks.{resolved_to_limit_network}
use Rattle.check_histories.specs.Runs.{resolved_to_limit_run}
use Rattle.check_histories.proofs.NetworkTests.{network-true}
use Rattle.check_histories.proofs.Passing.{passes-legal}
use Rattle.check_histories.proofs.worked.a_clogged_writer_stops_at_the_limit.Goals as goal

pub returns-clause-run : goal.returns-clause-run
unfolding resolved_to_limit_network resolved_to_limit_run
returns-clause-run c = record {
  network = network-true resolved_to_limit_network refl refl;
  legal = passes-legal resolved_to_limit_network 1 resolved_to_limit_run refl;
  stop = is_clogged_at-true resolved_to_limit_network resolved_to_limit_run 0 (lit< tt) refl;
}

pub returns-clause-capacity : goal.returns-clause-capacity
unfolding resolved_to_limit_network resolved_to_limit_run
returns-clause-capacity c = refl
