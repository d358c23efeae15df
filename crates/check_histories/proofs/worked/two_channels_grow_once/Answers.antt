use Rattle.std.proofs.Common.{refl}
use Rattle.check_histories.specs.Networks.{two_network}
use Rattle.check_histories.specs.Runs.{two_run, reader_closes_run}
use Rattle.check_histories.proofs.Claiming.{runs_to_its_end}
use Rattle.check_histories.proofs.worked.two_channels_grow_once.Goals as goal

pub returns-clause-run : goal.returns-clause-run
unfolding two_network two_run
returns-clause-run c = runs_to_its_end two_network 1 two_run refl refl refl refl refl

pub returns-clause-first : goal.returns-clause-first
unfolding two_network two_run
returns-clause-first c = refl

pub returns-clause-second : goal.returns-clause-second
unfolding two_network two_run
returns-clause-second c = refl

pub returns-clause-sink : goal.returns-clause-sink
unfolding two_run
returns-clause-sink c = refl

pub returns-clause-reader_closes : goal.returns-clause-reader_closes
unfolding two_network reader_closes_run
returns-clause-reader_closes c = runs_to_its_end two_network 1 reader_closes_run refl refl refl refl refl
