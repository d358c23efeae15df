use Rattle.std.proofs.Common.{refl}
use Rattle.check_histories.specs.Networks.{copy_network}
use Rattle.check_histories.specs.Runs.{copy_run}
use Rattle.check_histories.proofs.Claiming.{runs_to_its_end}
use Rattle.check_histories.proofs.worked.copies_three_items.Goals as goal

pub returns-clause-run : goal.returns-clause-run
unfolding copy_network copy_run
returns-clause-run c = runs_to_its_end copy_network 6 copy_run refl refl refl refl refl

pub returns-clause-sink : goal.returns-clause-sink
unfolding copy_run
returns-clause-sink c = refl
