use Rattle.std.proofs.Common.{[], ◌∷◌, refl}
use Rattle.check_histories.specs.Networks.{two_readers_network}
use Rattle.check_histories.specs.Runs.{two_readers_run}
use Rattle.check_histories.proofs.CompleteTests.{completes-true}
use Rattle.check_histories.proofs.completed.a_deadlock_is_complete.Goals as goal

pub returns-clause-first : goal.returns-clause-first
unfolding two_readers_network two_readers_run
returns-clause-first c = completes-true two_readers_network two_readers_run (0 ∷ 1 ∷ []) 0 refl

pub returns-clause-second : goal.returns-clause-second
unfolding two_readers_network two_readers_run
returns-clause-second c = completes-true two_readers_network two_readers_run (0 ∷ 1 ∷ []) 1 refl
