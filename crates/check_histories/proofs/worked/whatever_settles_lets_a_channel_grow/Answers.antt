use Rattle.std.proofs.Common.{refl}
use Rattle.check_histories.specs.Networks.{resolved_network, outside_network}
use Rattle.check_histories.specs.Runs.{reader_waits_last_run, end_settles_run, close_settles_run, take_settles_run, leave_settles_run}
use Rattle.check_histories.proofs.Passing.{passes-legal}
use Rattle.check_histories.proofs.worked.whatever_settles_lets_a_channel_grow.Goals as goal

pub returns-clause-wait_on_empty : goal.returns-clause-wait_on_empty
unfolding resolved_network reader_waits_last_run
returns-clause-wait_on_empty c = passes-legal resolved_network 1 reader_waits_last_run refl

pub returns-clause-end : goal.returns-clause-end
unfolding outside_network end_settles_run
returns-clause-end c = passes-legal outside_network 1 end_settles_run refl

pub returns-clause-close : goal.returns-clause-close
unfolding outside_network close_settles_run
returns-clause-close c = passes-legal outside_network 1 close_settles_run refl

pub returns-clause-take : goal.returns-clause-take
unfolding outside_network take_settles_run
returns-clause-take c = passes-legal outside_network 1 take_settles_run refl

pub returns-clause-leave : goal.returns-clause-leave
unfolding outside_network leave_settles_run
returns-clause-leave c = passes-legal outside_network 1 leave_settles_run refl
