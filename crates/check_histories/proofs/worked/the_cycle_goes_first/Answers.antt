use Rattle.check_histories.proofs.Common.{refl, is_jammed_at-true}
use Rattle.check_histories.specs.Networks.{cycle_below_limit, cycle_at_limit}
use Rattle.check_histories.specs.Runs.{cycle_goes_first_run, other_grows_run}
use Rattle.check_histories.proofs.Claiming.{runs_to_its_end}
use Rattle.check_histories.proofs.NetworkTests.{network-true}
use Rattle.check_histories.proofs.Passing.{passes-legal}
use Rattle.check_histories.proofs.worked.the_cycle_goes_first.Goals as goal

pub returns-clause-below_limit : goal.returns-clause-below_limit
unfolding cycle_below_limit cycle_goes_first_run
returns-clause-below_limit c = runs_to_its_end cycle_below_limit 1 cycle_goes_first_run refl refl refl refl refl

pub returns-clause-at_limit : goal.returns-clause-at_limit
unfolding cycle_at_limit other_grows_run
returns-clause-at_limit c = record {
  network = network-true cycle_at_limit refl refl;
  legal = passes-legal cycle_at_limit 1 other_grows_run refl;
  stop = is_jammed_at-true cycle_at_limit other_grows_run 0 refl;
}
