use Rattle.std.proofs.Common.{refl}
use Rattle.check_histories.specs.Networks.{resolved_network}
use Rattle.check_histories.specs.Runs.{resolved_run}
use Rattle.check_histories.proofs.Claiming.{runs_to_its_end}
use Rattle.check_histories.proofs.worked.a_clogged_writer_goes_on.Goals as goal

pub returns-clause-run : goal.returns-clause-run
unfolding resolved_network resolved_run
returns-clause-run c = runs_to_its_end resolved_network 1 resolved_run refl refl refl refl refl

pub returns-clause-capacity : goal.returns-clause-capacity
unfolding resolved_network resolved_run
returns-clause-capacity c = refl
