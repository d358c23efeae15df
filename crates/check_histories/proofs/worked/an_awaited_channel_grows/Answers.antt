use Rattle.std.proofs.Common.{refl}
use Rattle.check_histories.specs.Networks.{small_full_network}
use Rattle.check_histories.specs.Runs.{small_full_run}
use Rattle.check_histories.proofs.Claiming.{runs_to_its_end}
use Rattle.check_histories.proofs.worked.an_awaited_channel_grows.Goals as goal

pub returns-clause-run : goal.returns-clause-run
unfolding small_full_network small_full_run
returns-clause-run c = runs_to_its_end small_full_network 1 small_full_run refl refl refl refl refl

pub returns-clause-awaited : goal.returns-clause-awaited
unfolding small_full_network small_full_run
returns-clause-awaited c = refl

pub returns-clause-other : goal.returns-clause-other
unfolding small_full_network small_full_run
returns-clause-other c = refl
