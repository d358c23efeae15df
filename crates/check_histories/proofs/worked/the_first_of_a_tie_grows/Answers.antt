use Rattle.std.proofs.Common.{refl}
use Rattle.check_histories.specs.Networks.{tie_network}
use Rattle.check_histories.specs.Runs.{tie_run}
use Rattle.check_histories.proofs.Claiming.{runs_to_its_end}
use Rattle.check_histories.proofs.worked.the_first_of_a_tie_grows.Goals as goal

pub returns-clause-run : goal.returns-clause-run
unfolding tie_network tie_run
returns-clause-run c = runs_to_its_end tie_network 1 tie_run refl refl refl refl refl

pub returns-clause-first : goal.returns-clause-first
unfolding tie_network tie_run
returns-clause-first c = refl

pub returns-clause-second : goal.returns-clause-second
unfolding tie_network tie_run
returns-clause-second c = refl
