use Rattle.check_histories.proofs.Common.{[], ◌∷◌, refl, lit<, is_clogged_at-true}
use Rattle.check_histories.specs.Networks.{delayed_network}
use Rattle.check_histories.specs.Runs.{delayed_run}
use Rattle.check_histories.proofs.NetworkTests.{network-true}
use Rattle.check_histories.proofs.Passing.{passes-legal}
use Rattle.check_histories.proofs.CompleteTests.{completes-true, leads_on-true}
use Rattle.check_histories.proofs.completed.a_delay_hides_no_item.Goals as goal

pub returns-clause-run : goal.returns-clause-run
unfolding delayed_network delayed_run
returns-clause-run c = record {
  network = network-true delayed_network refl refl;
  legal = passes-legal delayed_network 4 delayed_run refl;
  stop = is_clogged_at-true delayed_network delayed_run 1 (lit< tt) refl;
}

pub returns-clause-sink : goal.returns-clause-sink
unfolding delayed_network delayed_run
returns-clause-sink c = completes-true delayed_network delayed_run (0 ∷ []) 3 refl

pub returns-clause-surplus : goal.returns-clause-surplus
unfolding delayed_network delayed_run
returns-clause-surplus c = leads_on-true delayed_network delayed_run 4 2 refl
