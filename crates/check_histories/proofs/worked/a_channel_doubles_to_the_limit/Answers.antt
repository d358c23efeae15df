use Rattle.check_histories.proofs.Common.{refl, is_jammed_at-true}
use Rattle.check_histories.specs.Networks.{doubling_to_limit_network}
use Rattle.check_histories.specs.Runs.{doubled_to_limit_run}
use Rattle.check_histories.proofs.NetworkTests.{network-true}
use Rattle.check_histories.proofs.Passing.{passes-legal}
use Rattle.check_histories.proofs.worked.a_channel_doubles_to_the_limit.Goals as goal

pub returns-clause-run : goal.returns-clause-run
unfolding doubling_to_limit_network doubled_to_limit_run
returns-clause-run c = record {
  network = network-true doubling_to_limit_network refl refl;
  legal = passes-legal doubling_to_limit_network 1 doubled_to_limit_run refl;
  stop = is_jammed_at-true doubling_to_limit_network doubled_to_limit_run 0 refl;
}

pub returns-clause-capacity : goal.returns-clause-capacity
unfolding doubling_to_limit_network doubled_to_limit_run
returns-clause-capacity c = refl
