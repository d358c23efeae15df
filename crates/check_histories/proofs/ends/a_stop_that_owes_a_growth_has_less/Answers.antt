use Rattle.check_histories.proofs.Common.{[], take, refl, is_settled-true}
use Rattle.check_histories.specs.Networks.{resolved_network}
use Rattle.check_histories.specs.Runs.{resolved_run}
use Rattle.check_histories.proofs.FinalTests.{run_from, final_run, fed_nothing}
use Rattle.check_histories.proofs.ends.a_stop_that_owes_a_growth_has_less.Goals as goal

pub returns-clause-run : goal.returns-clause-run
unfolding resolved_network resolved_run
returns-clause-run c =
    run_from resolved_network (λ c. []) 1 (take 4 resolved_run) refl (fed_nothing (take 4 resolved_run))

pub returns-clause-settled : goal.returns-clause-settled
unfolding resolved_network resolved_run
returns-clause-settled c = is_settled-true resolved_network (take 4 resolved_run) refl

pub returns-clause-growths : goal.returns-clause-growths
unfolding resolved_run
returns-clause-growths c = refl

pub returns-clause-end : goal.returns-clause-end
unfolding resolved_network resolved_run
returns-clause-end c =
    final_run resolved_network (λ c. []) 1 resolved_run refl refl refl (fed_nothing resolved_run)

pub returns-clause-more : goal.returns-clause-more
unfolding resolved_run
returns-clause-more c = refl
