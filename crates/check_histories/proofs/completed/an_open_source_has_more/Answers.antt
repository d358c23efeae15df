use Rattle.std.proofs.Common.{[], ◌∷◌, refl}
use Rattle.check_histories.specs.Networks.{copy_network}
use Rattle.check_histories.specs.Runs.{copy_run, open_run}
use Rattle.check_histories.proofs.CompleteTests.{completes-true, leads_on-true}
use Rattle.check_histories.proofs.completed.an_open_source_has_more.Goals as goal

pub returns-clause-source : goal.returns-clause-source
unfolding copy_network open_run
returns-clause-source c = leads_on-true copy_network open_run 4 0 refl

pub returns-clause-sink : goal.returns-clause-sink
unfolding copy_network open_run
returns-clause-sink c = leads_on-true copy_network open_run 4 1 refl

pub returns-clause-closed : goal.returns-clause-closed
unfolding copy_network copy_run
returns-clause-closed c = completes-true copy_network copy_run (0 ∷ []) 1 refl
