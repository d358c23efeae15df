use Rattle.std.proofs.Common.{refl}
use Rattle.check_histories.specs.Networks.{zero_divisor_network, overflow_network}
use Rattle.check_histories.specs.Runs.{zero_divisor_run, overflow_run}
use Rattle.check_histories.proofs.Claiming.{runs_to_its_end}
use Rattle.check_histories.proofs.worked.a_fault_ends_its_process.Goals as goal

pub returns-clause-zero_divisor : goal.returns-clause-zero_divisor
unfolding zero_divisor_network zero_divisor_run
returns-clause-zero_divisor c = runs_to_its_end zero_divisor_network 1 zero_divisor_run refl refl refl refl refl

pub returns-clause-overflow : goal.returns-clause-overflow
unfolding overflow_network overflow_run
returns-clause-overflow c = runs_to_its_end overflow_network 1 overflow_run refl refl refl refl refl

pub returns-clause-sink : goal.returns-clause-sink
unfolding zero_divisor_run
returns-clause-sink c = refl
