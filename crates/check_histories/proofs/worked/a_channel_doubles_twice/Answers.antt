use Rattle.std.proofs.Common.{refl}
use Rattle.check_histories.specs.Networks.{doubling_network}
use Rattle.check_histories.specs.Runs.{doubling_run}
use Rattle.check_histories.proofs.Claiming.{runs_to_its_end}
use Rattle.check_histories.proofs.worked.a_channel_doubles_twice.Goals as goal

pub returns-clause-run : goal.returns-clause-run
unfolding doubling_network doubling_run
returns-clause-run c = runs_to_its_end doubling_network 1 doubling_run refl refl refl refl refl

pub returns-clause-capacity : goal.returns-clause-capacity
unfolding doubling_network doubling_run
returns-clause-capacity c = refl
