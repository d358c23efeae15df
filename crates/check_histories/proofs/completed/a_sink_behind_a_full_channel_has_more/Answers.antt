use Rattle.std.proofs.Common.{[], ◌∷◌, refl}
use Rattle.check_histories.specs.Networks.{two_at_limit, two_network}
use Rattle.check_histories.specs.Runs.{two_at_limit_run, two_run}
use Rattle.check_histories.proofs.CompleteTests.{completes-true, leads_on-true}
use Rattle.check_histories.proofs.completed.a_sink_behind_a_full_channel_has_more.Goals as goal

pub returns-clause-sink : goal.returns-clause-sink
unfolding two_at_limit two_at_limit_run
returns-clause-sink c = leads_on-true two_at_limit two_at_limit_run 4 2 refl

pub returns-clause-had : goal.returns-clause-had
unfolding two_at_limit_run
returns-clause-had c = refl

pub returns-clause-gets : goal.returns-clause-gets
unfolding two_run
returns-clause-gets c = refl

pub returns-clause-whole : goal.returns-clause-whole
unfolding two_network two_run
returns-clause-whole c = completes-true two_network two_run (1 ∷ []) 2 refl
