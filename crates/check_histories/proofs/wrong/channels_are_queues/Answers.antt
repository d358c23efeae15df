use Rattle.check_histories.proofs.Common.{arith, lit<, refl, ◌≤◌, Legal-consistent}
use Rattle.check_histories.specs.Networks.{copy_network, two_network}
use Rattle.check_histories.specs.Runs.{two_run}
use Rattle.check_histories.specs.WrongLists.{gets_the_newest, gets_once_more, takes_once_more, puts_into_a_full_channel}
use Rattle.check_histories.proofs.Claiming.{breaks_at}
use Rattle.check_histories.proofs.wrong.channels_are_queues.Goals as goal

pub returns-clause-gets_the_newest : goal.returns-clause-gets_the_newest
unfolding copy_network gets_the_newest
returns-clause-gets_the_newest c = breaks_at copy_network 3 gets_the_newest 2 refl (λ legal.
    let item = ((Legal-consistent copy_network gets_the_newest legal).in_order 0 (lit< tt)).0 in cc)

pub returns-clause-gets_once_more : goal.returns-clause-gets_once_more
unfolding copy_network gets_once_more
returns-clause-gets_once_more c = breaks_at copy_network 3 gets_once_more 3 refl (λ legal.
    ((Legal-consistent copy_network gets_once_more legal).in_order 0 (lit< tt)).1)

pub returns-clause-takes_once_more : goal.returns-clause-takes_once_more
unfolding two_network takes_once_more two_run
returns-clause-takes_once_more c = breaks_at two_network 1 takes_once_more 13 refl (λ legal.
    ((Legal-consistent two_network takes_once_more legal).in_order 2 (lit< tt)).1)

pub returns-clause-puts_into_a_full_channel : goal.returns-clause-puts_into_a_full_channel
unfolding two_network puts_into_a_full_channel
returns-clause-puts_into_a_full_channel c = breaks_at two_network 1 puts_into_a_full_channel 1 refl (λ legal.
    let most : 2 ≤ 1 =
    (Legal-consistent two_network puts_into_a_full_channel legal).within 0 (lit< tt) refl 1 refl in omega arith)
