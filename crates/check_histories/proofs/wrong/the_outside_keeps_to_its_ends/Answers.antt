use Rattle.check_histories.proofs.Common.{pos, refl, Close, Feed, Leave, Take}
use Rattle.check_histories.specs.Networks.{two_network, copy_network}
use Rattle.check_histories.specs.WrongLists.{feeds_no_source, feeds_after_the_close, closes_no_source, closes_twice, takes_from_no_sink, takes_after_the_leave, leaves_no_sink, leaves_twice}
use Rattle.check_histories.proofs.Claiming.{breaks_by}
use Rattle.check_histories.proofs.wrong.the_outside_keeps_to_its_ends.Goals as goal

pub returns-clause-feeds_no_source : goal.returns-clause-feeds_no_source
unfolding two_network feeds_no_source
returns-clause-feeds_no_source c =
    breaks_by two_network 1 feeds_no_source 0 (Feed 0 (pos 1)) refl refl (λ follows.
    let source = follows.due.source in cc)

pub returns-clause-feeds_after_the_close : goal.returns-clause-feeds_after_the_close
unfolding copy_network feeds_after_the_close
returns-clause-feeds_after_the_close c =
    breaks_by copy_network 3 feeds_after_the_close 1 (Feed 0 (pos 1)) refl refl (λ follows.
    let not_closed = follows.due.not_closed in cc)

pub returns-clause-closes_no_source : goal.returns-clause-closes_no_source
unfolding copy_network closes_no_source
returns-clause-closes_no_source c =
    breaks_by copy_network 3 closes_no_source 0 (Close 1) refl refl (λ follows. let source = follows.due.source in cc)

pub returns-clause-closes_twice : goal.returns-clause-closes_twice
unfolding copy_network closes_twice
returns-clause-closes_twice c =
    breaks_by copy_network 3 closes_twice 1 (Close 0) refl refl (λ follows.
    let not_closed = follows.due.not_closed in cc)

pub returns-clause-takes_from_no_sink : goal.returns-clause-takes_from_no_sink
unfolding two_network takes_from_no_sink
returns-clause-takes_from_no_sink c =
    breaks_by two_network 1 takes_from_no_sink 1 (Take 0 (pos 1)) refl refl (λ follows.
    let sink = follows.due.sink in cc)

pub returns-clause-takes_after_the_leave : goal.returns-clause-takes_after_the_leave
unfolding copy_network takes_after_the_leave
returns-clause-takes_after_the_leave c =
    breaks_by copy_network 3 takes_after_the_leave 4 (Take 1 (pos 1)) refl refl (λ follows.
    let not_left = follows.due.not_left in cc)

pub returns-clause-leaves_no_sink : goal.returns-clause-leaves_no_sink
unfolding copy_network leaves_no_sink
returns-clause-leaves_no_sink c =
    breaks_by copy_network 3 leaves_no_sink 0 (Leave 0) refl refl (λ follows. let sink = follows.due.sink in cc)

pub returns-clause-leaves_twice : goal.returns-clause-leaves_twice
unfolding copy_network leaves_twice
returns-clause-leaves_twice c =
    breaks_by copy_network 3 leaves_twice 1 (Leave 1) refl refl (λ follows. let not_left = follows.due.not_left in cc)
