use Rattle.check_histories.proofs.Common.{arith, lit<, refl, ◌≤◌, Grow, Leave, Legal-consistent}
use Rattle.check_histories.specs.Networks.{resolved_network, resolved_to_limit_network, small_full_network, outside_network, cycle_below_limit}
use Rattle.check_histories.specs.Runs.{close_settles_run, small_full_run, reader_waits_last_run, cycle_goes_first_run, resolved_to_limit_run}
use Rattle.check_histories.specs.WrongLists.{grows_while_one_is_ready, grows_before_the_close, grows_where_nobody_waits, grows_for_the_last_to_wait, growth_at_stop_left_out, passes_over_the_cycle, doubles_past_the_limit, puts_past_the_doubled}
use Rattle.check_histories.proofs.Claiming.{breaks_at, breaks_by_growth, breaks_owing}
use Rattle.check_histories.proofs.wrong.growths_at_stops_are_owed.Goals as goal

pub returns-clause-while_one_is_ready : goal.returns-clause-while_one_is_ready
unfolding resolved_network grows_while_one_is_ready
returns-clause-while_one_is_ready c =
    breaks_by_growth resolved_network 1 grows_while_one_is_ready 3 0 0 2 refl refl refl

pub returns-clause-before_the_close : goal.returns-clause-before_the_close
unfolding outside_network grows_before_the_close close_settles_run
returns-clause-before_the_close c = breaks_by_growth outside_network 1 grows_before_the_close 6 0 0 2 refl refl refl

pub returns-clause-past_the_limit : goal.returns-clause-past_the_limit
unfolding resolved_to_limit_network doubles_past_the_limit resolved_to_limit_run
returns-clause-past_the_limit c =
    breaks_by_growth resolved_to_limit_network 1 doubles_past_the_limit 10 0 0 3 refl refl refl

pub returns-clause-where_nobody_waits : goal.returns-clause-where_nobody_waits
unfolding small_full_network grows_where_nobody_waits small_full_run
returns-clause-where_nobody_waits c =
    breaks_owing small_full_network 1 grows_where_nobody_waits 7 0 0 (Grow 3 3 2) refl refl refl (λ same. cc)

pub returns-clause-for_the_last_to_wait : goal.returns-clause-for_the_last_to_wait
unfolding resolved_network grows_for_the_last_to_wait reader_waits_last_run
returns-clause-for_the_last_to_wait c =
    breaks_owing resolved_network 1 grows_for_the_last_to_wait 4 0 0 (Grow 2 0 2) refl refl refl (λ same. cc)

pub returns-clause-left_out : goal.returns-clause-left_out
unfolding outside_network growth_at_stop_left_out close_settles_run
returns-clause-left_out c =
    breaks_owing outside_network 1 growth_at_stop_left_out 7 0 0 (Leave 2) refl refl refl (λ same. cc)

pub returns-clause-passes_over_the_cycle : goal.returns-clause-passes_over_the_cycle
unfolding cycle_below_limit passes_over_the_cycle cycle_goes_first_run
returns-clause-passes_over_the_cycle c =
    breaks_owing cycle_below_limit 1 passes_over_the_cycle 5 0 0 (Grow 1 1 2) refl refl refl (λ same. cc)

pub returns-clause-doubled : goal.returns-clause-doubled
unfolding resolved_to_limit_network puts_past_the_doubled resolved_to_limit_run
returns-clause-doubled c = breaks_at resolved_to_limit_network 1 puts_past_the_doubled 9 refl (λ legal.
    let most : 4 ≤ 3 =
    (Legal-consistent resolved_to_limit_network puts_past_the_doubled legal).within 0 (lit< tt) refl 3 refl in
    omega arith)
