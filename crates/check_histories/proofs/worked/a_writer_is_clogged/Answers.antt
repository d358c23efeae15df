use Rattle.check_histories.proofs.Common.{refl, lit<, is_clogged_at-true}
use Rattle.check_histories.specs.Networks.{clogged_network}
use Rattle.check_histories.specs.Runs.{clogged_run}
use Rattle.check_histories.proofs.NetworkTests.{network-true}
use Rattle.check_histories.proofs.Passing.{passes-legal}
use Rattle.check_histories.proofs.worked.a_writer_is_clogged.Goals as goal

pub returns : goal.returns
unfolding clogged_network clogged_run
returns c = record {
  network = network-true clogged_network refl refl;
  legal = passes-legal clogged_network 1 clogged_run refl;
  stop = is_clogged_at-true clogged_network clogged_run 0 (lit< tt) refl;
}
