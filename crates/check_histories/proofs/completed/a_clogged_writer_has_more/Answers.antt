use Rattle.std.proofs.Common.{[], ◌∷◌, refl}
use Rattle.check_histories.specs.Networks.{clogged_network, resolved_network}
use Rattle.check_histories.specs.Runs.{clogged_run, resolved_run}
use Rattle.check_histories.proofs.CompleteTests.{completes-true, leads_on-true}
use Rattle.check_histories.proofs.completed.a_clogged_writer_has_more.Goals as goal

pub returns-clause-writer : goal.returns-clause-writer
unfolding clogged_network clogged_run
returns-clause-writer c = leads_on-true clogged_network clogged_run 4 0 refl

pub returns-clause-deadlock : goal.returns-clause-deadlock
unfolding clogged_network clogged_run
returns-clause-deadlock c = completes-true clogged_network clogged_run (1 ∷ 2 ∷ []) 1 refl

pub returns-clause-had : goal.returns-clause-had
unfolding clogged_run
returns-clause-had c = refl

pub returns-clause-gets : goal.returns-clause-gets
unfolding resolved_run
returns-clause-gets c = refl

pub returns-clause-whole : goal.returns-clause-whole
unfolding resolved_network resolved_run
returns-clause-whole c = completes-true resolved_network resolved_run (0 ∷ []) 0 refl
