use Rattle.check_histories.proofs.Common.{[], ◌∷◌, refl, lit<, is_clogged_at-true}
use Rattle.check_histories.specs.Networks.{scaled_network, scaled_to_limit_network}
use Rattle.check_histories.specs.Runs.{scaled_run, scaled_to_limit_run}
use Rattle.check_histories.proofs.NetworkTests.{network-true}
use Rattle.check_histories.proofs.Passing.{passes-legal}
use Rattle.check_histories.proofs.CompleteTests.{completes-true, leads_on-true}
use Rattle.check_histories.proofs.completed.a_generator_hides_no_item.Goals as goal

pub returns-clause-run : goal.returns-clause-run
unfolding scaled_network scaled_run
returns-clause-run c = record {
  network = network-true scaled_network refl refl;
  legal = passes-legal scaled_network 4 scaled_run refl;
  stop = is_clogged_at-true scaled_network scaled_run 0 (lit< tt) refl;
}

pub returns-clause-sink : goal.returns-clause-sink
unfolding scaled_network scaled_run
returns-clause-sink c = completes-true scaled_network scaled_run (1 ∷ []) 2 refl

pub returns-clause-surplus : goal.returns-clause-surplus
unfolding scaled_network scaled_run
returns-clause-surplus c = leads_on-true scaled_network scaled_run 4 1 refl

pub returns-clause-run_to_limit : goal.returns-clause-run_to_limit
unfolding scaled_to_limit_network scaled_to_limit_run
returns-clause-run_to_limit c = record {
  network = network-true scaled_to_limit_network refl refl;
  legal = passes-legal scaled_to_limit_network 4 scaled_to_limit_run refl;
  stop = is_clogged_at-true scaled_to_limit_network scaled_to_limit_run 0 (lit< tt) refl;
}

pub returns-clause-sink_at_limit : goal.returns-clause-sink_at_limit
unfolding scaled_to_limit_network scaled_to_limit_run
returns-clause-sink_at_limit c = completes-true scaled_to_limit_network scaled_to_limit_run (1 ∷ []) 2 refl
