use Rattle.std.proofs.Common.{refl}
use Rattle.check_histories.specs.Networks.{larger_network}
use Rattle.check_histories.specs.Runs.{larger_run}
use Rattle.check_histories.proofs.Claiming.{runs_to_its_end}
use Rattle.check_histories.proofs.worked.the_smaller_grows.Goals as goal

pub returns-clause-run : goal.returns-clause-run
unfolding larger_network larger_run
returns-clause-run c = runs_to_its_end larger_network 1 larger_run refl refl refl refl refl

pub returns-clause-larger : goal.returns-clause-larger
unfolding larger_network larger_run
returns-clause-larger c = refl

pub returns-clause-smaller : goal.returns-clause-smaller
unfolding larger_network larger_run
returns-clause-smaller c = refl
