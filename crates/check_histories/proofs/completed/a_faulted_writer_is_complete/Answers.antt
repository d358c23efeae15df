use Rattle.std.proofs.Common.{[], ◌∷◌, refl}
use Rattle.check_histories.specs.Networks.{zero_divisor_network}
use Rattle.check_histories.specs.Runs.{zero_divisor_run}
use Rattle.check_histories.proofs.CompleteTests.{completes-true}
use Rattle.check_histories.proofs.completed.a_faulted_writer_is_complete.Goals as goal

pub returns : goal.returns
unfolding zero_divisor_network zero_divisor_run
returns c = completes-true zero_divisor_network zero_divisor_run (0 ∷ []) 0 refl
