use Rattle.check_histories.proofs.Common.{refl, fed}
use Rattle.check_histories.specs.Networks.{copy_network}
use Rattle.check_histories.specs.Runs.{copy_run, left_after_one_run}
use Rattle.check_histories.proofs.FinalTests.{final_run, copy_fed, left_fed}
use Rattle.check_histories.proofs.ends.a_sink_that_is_left_keeps_items.Goals as goal

pub returns-clause-reads : goal.returns-clause-reads
unfolding copy_network copy_run
returns-clause-reads c = final_run copy_network (fed copy_network copy_run) 6 copy_run refl refl refl copy_fed

pub returns-clause-leaves : goal.returns-clause-leaves
unfolding copy_network left_after_one_run
returns-clause-leaves c =
    final_run copy_network (fed copy_network copy_run) 6 left_after_one_run refl refl refl left_fed

pub returns-clause-whole : goal.returns-clause-whole
unfolding copy_run
returns-clause-whole c = refl

pub returns-clause-one : goal.returns-clause-one
unfolding left_after_one_run
returns-clause-one c = refl
