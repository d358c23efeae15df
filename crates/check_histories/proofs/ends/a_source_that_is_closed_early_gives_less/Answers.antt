use Rattle.check_histories.proofs.Common.{refl, is_settled-true}
use Rattle.check_histories.specs.Networks.{copy_network}
use Rattle.check_histories.specs.Runs.{early_close_run}
use Rattle.check_histories.proofs.GrowthTests.{owes_none-true}
use Rattle.check_histories.proofs.Passing.{passes-legal}
use Rattle.check_histories.proofs.FinalTests.{fed_early}
use Rattle.check_histories.proofs.ends.a_source_that_is_closed_early_gives_less.Goals as goal

pub returns-clause-legal : goal.returns-clause-legal
unfolding copy_network early_close_run
returns-clause-legal c = passes-legal copy_network 6 early_close_run refl

pub returns-clause-settled : goal.returns-clause-settled
unfolding copy_network early_close_run
returns-clause-settled c = is_settled-true copy_network early_close_run refl

pub returns-clause-nothing_owed : goal.returns-clause-nothing_owed
unfolding copy_network early_close_run
returns-clause-nothing_owed c p d = owes_none-true copy_network early_close_run p d refl

pub returns-clause-begun : goal.returns-clause-begun
returns-clause-begun c = fed_early

pub returns-clause-sink : goal.returns-clause-sink
unfolding early_close_run
returns-clause-sink c = refl
