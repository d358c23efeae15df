use Rattle.std.proofs.Common.{refl}
use Rattle.check_histories.specs.Networks.{two_readers_network}
use Rattle.check_histories.specs.Runs.{two_readers_run}
use Rattle.check_histories.proofs.Claiming.{runs_to_its_end}
use Rattle.check_histories.proofs.worked.two_readers_wait.Goals as goal

pub returns : goal.returns
unfolding two_readers_network two_readers_run
returns c = record { run = runs_to_its_end two_readers_network 1 two_readers_run refl refl refl refl refl }
