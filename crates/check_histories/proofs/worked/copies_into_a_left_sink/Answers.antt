use Rattle.std.proofs.Common.{refl}
use Rattle.check_histories.specs.Networks.{copy_network}
use Rattle.check_histories.specs.Runs.{left_sink_run}
use Rattle.check_histories.proofs.Claiming.{runs_to_its_end}
use Rattle.check_histories.proofs.worked.copies_into_a_left_sink.Goals as goal

pub returns : goal.returns
unfolding copy_network left_sink_run
returns c = record { run = runs_to_its_end copy_network 6 left_sink_run refl refl refl refl refl }
