use Rattle.std.proofs.Common.{refl}
use Rattle.check_histories.specs.Networks.{self_loop_network}
use Rattle.check_histories.specs.Runs.{self_loop_run}
use Rattle.check_histories.proofs.Claiming.{runs_to_its_end}
use Rattle.check_histories.proofs.worked.a_self_loop_grows_once.Goals as goal

pub returns-clause-run : goal.returns-clause-run
unfolding self_loop_network self_loop_run
returns-clause-run c = runs_to_its_end self_loop_network 1 self_loop_run refl refl refl refl refl

pub returns-clause-capacity : goal.returns-clause-capacity
unfolding self_loop_network self_loop_run
returns-clause-capacity c = refl
