use Rattle.check_histories.proofs.Common.{refl, is_jammed_at-true}
use Rattle.check_histories.specs.Networks.{two_at_limit}
use Rattle.check_histories.specs.Runs.{two_at_limit_run}
use Rattle.check_histories.proofs.NetworkTests.{network-true}
use Rattle.check_histories.proofs.Passing.{passes-legal}
use Rattle.check_histories.proofs.worked.two_channels_jam_at_the_limit.Goals as goal

pub returns : goal.returns
unfolding two_at_limit two_at_limit_run
returns c = record {
  network = network-true two_at_limit refl refl;
  legal = passes-legal two_at_limit 1 two_at_limit_run refl;
  stop = is_jammed_at-true two_at_limit two_at_limit_run 0 refl;
}
