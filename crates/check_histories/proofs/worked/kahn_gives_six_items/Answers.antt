use Rattle.std.proofs.Common.{refl}
use Rattle.check_histories.specs.Networks.{kahn_network}
use Rattle.check_histories.specs.Runs.{kahn_run}
use Rattle.check_histories.proofs.NetworkTests.{network-true}
use Rattle.check_histories.proofs.Passing.{passes-legal}
use Rattle.check_histories.proofs.worked.kahn_gives_six_items.Goals as goal

pub returns-clause-network : goal.returns-clause-network
unfolding kahn_network
returns-clause-network c = network-true kahn_network refl refl

pub returns-clause-legal : goal.returns-clause-legal
unfolding kahn_network kahn_run
returns-clause-legal c = passes-legal kahn_network 10 kahn_run refl

pub returns-clause-sink : goal.returns-clause-sink
unfolding kahn_run
returns-clause-sink c = refl
