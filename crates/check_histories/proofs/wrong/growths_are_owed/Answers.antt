use Rattle.check_histories.proofs.Common.{refl, Grow, Leave}
use Rattle.check_histories.specs.Networks.{two_network, clogged_network, two_at_limit, larger_network, tie_network}
use Rattle.check_histories.specs.Runs.{two_run, clogged_run, two_at_limit_run, larger_run, tie_run}
use Rattle.check_histories.specs.WrongLists.{growth_left_out, grows_another_channel, grows_for_the_reader, grows_at_first, grows_twice, grows_without_a_cycle, grows_at_the_limit, grows_the_larger, grows_for_its_writer, grows_the_greater_number}
use Rattle.check_histories.proofs.Claiming.{breaks_by_growth, breaks_owing}
use Rattle.check_histories.proofs.wrong.growths_are_owed.Goals as goal

pub returns-clause-left_out : goal.returns-clause-left_out
unfolding two_network growth_left_out two_run
returns-clause-left_out c = breaks_owing two_network 1 growth_left_out 3 0 0 (Leave 2) refl refl refl (λ same. cc)

pub returns-clause-another_channel : goal.returns-clause-another_channel
unfolding two_network grows_another_channel two_run
returns-clause-another_channel c =
    breaks_owing two_network 1 grows_another_channel 3 0 0 (Grow 0 1 2) refl refl refl (λ same. cc)

pub returns-clause-for_the_reader : goal.returns-clause-for_the_reader
unfolding two_network grows_for_the_reader two_run
returns-clause-for_the_reader c =
    breaks_owing two_network 1 grows_for_the_reader 3 0 0 (Grow 1 0 2) refl refl refl (λ same. cc)

pub returns-clause-at_first : goal.returns-clause-at_first
unfolding two_network grows_at_first
returns-clause-at_first c = breaks_by_growth two_network 1 grows_at_first 0 0 0 2 refl refl refl

pub returns-clause-twice : goal.returns-clause-twice
unfolding two_network grows_twice two_run
returns-clause-twice c = breaks_by_growth two_network 1 grows_twice 4 0 0 3 refl refl refl

pub returns-clause-without_a_cycle : goal.returns-clause-without_a_cycle
unfolding clogged_network grows_without_a_cycle clogged_run
returns-clause-without_a_cycle c = breaks_by_growth clogged_network 1 grows_without_a_cycle 4 0 0 2 refl refl refl

pub returns-clause-at_the_limit : goal.returns-clause-at_the_limit
unfolding two_at_limit grows_at_the_limit two_at_limit_run
returns-clause-at_the_limit c = breaks_by_growth two_at_limit 1 grows_at_the_limit 3 0 0 2 refl refl refl

pub returns-clause-the_larger : goal.returns-clause-the_larger
unfolding larger_network grows_the_larger larger_run
returns-clause-the_larger c =
    breaks_owing larger_network 1 grows_the_larger 5 0 1 (Grow 0 0 3) refl refl refl (λ same. cc)

pub returns-clause-for_its_writer : goal.returns-clause-for_its_writer
unfolding larger_network grows_for_its_writer larger_run
returns-clause-for_its_writer c =
    breaks_owing larger_network 1 grows_for_its_writer 5 0 1 (Grow 1 1 2) refl refl refl (λ same. cc)

pub returns-clause-the_greater_number : goal.returns-clause-the_greater_number
unfolding tie_network grows_the_greater_number tie_run
returns-clause-the_greater_number c =
    breaks_owing tie_network 1 grows_the_greater_number 4 1 0 (Grow 1 1 2) refl refl refl (λ same. cc)
