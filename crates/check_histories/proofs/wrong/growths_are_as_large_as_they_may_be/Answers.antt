use Rattle.check_histories.proofs.Common.{arith, lit<, refl, ◌≤◌, Grow, Legal-consistent}
use Rattle.check_histories.specs.Networks.{doubling_network, one_more_network, doubling_to_limit_network}
use Rattle.check_histories.specs.Runs.{doubling_run, doubled_to_limit_run}
use Rattle.check_histories.specs.WrongLists.{puts_as_if_doubled, puts_past_the_limit, grows_past_the_limit, tells_too_small_a_capacity, tells_too_large_a_capacity}
use Rattle.check_histories.proofs.Claiming.{breaks_at, breaks_by_growth, breaks_owing}
use Rattle.check_histories.proofs.wrong.growths_are_as_large_as_they_may_be.Goals as goal

pub returns-clause-by_one : goal.returns-clause-by_one
unfolding one_more_network puts_as_if_doubled doubling_run
returns-clause-by_one c = breaks_at one_more_network 1 puts_as_if_doubled 7 refl (λ legal.
    let most : 4 ≤ 3 =
    (Legal-consistent one_more_network puts_as_if_doubled legal).within 0 (lit< tt) refl 3 refl in omega arith)

pub returns-clause-past_the_limit : goal.returns-clause-past_the_limit
unfolding doubling_to_limit_network puts_past_the_limit doubled_to_limit_run
returns-clause-past_the_limit c = breaks_at doubling_to_limit_network 1 puts_past_the_limit 5 refl (λ legal.
    let most : 4 ≤ 3 =
    (Legal-consistent doubling_to_limit_network puts_past_the_limit legal).within 0 (lit< tt) refl 3 refl in
    omega arith)

pub returns-clause-at_the_limit : goal.returns-clause-at_the_limit
unfolding doubling_to_limit_network grows_past_the_limit doubled_to_limit_run
returns-clause-at_the_limit c =
    breaks_by_growth doubling_to_limit_network 1 grows_past_the_limit 6 0 0 3 refl refl refl

pub returns-clause-tells_too_small : goal.returns-clause-tells_too_small
unfolding doubling_network tells_too_small_a_capacity doubling_run
returns-clause-tells_too_small c =
    breaks_owing doubling_network 1 tells_too_small_a_capacity 5 0 0 (Grow 0 0 3) refl refl refl (λ same. cc)

pub returns-clause-tells_too_large : goal.returns-clause-tells_too_large
unfolding one_more_network tells_too_large_a_capacity doubling_run
returns-clause-tells_too_large c =
    breaks_owing one_more_network 1 tells_too_large_a_capacity 5 0 0 (Grow 0 0 4) refl refl refl (λ same. cc)
