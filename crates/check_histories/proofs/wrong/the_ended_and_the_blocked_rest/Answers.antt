use Rattle.check_histories.proofs.Common.{refl, Ended, WaitEmpty}
use Rattle.kpn_history.specs.declared.event.How.TheVariants as how
use Rattle.check_histories.specs.Networks.{ended_reader_network, two_readers_network}
use Rattle.check_histories.specs.WrongLists.{ends_twice, waits_while_blocked}
use Rattle.check_histories.proofs.Claiming.{breaks_by}
use Rattle.check_histories.proofs.wrong.the_ended_and_the_blocked_rest.Goals as goal

pub returns-clause-ends_twice : goal.returns-clause-ends_twice
unfolding ended_reader_network ends_twice
returns-clause-ends_twice c =
    breaks_by ended_reader_network 1 ends_twice 2 (Ended 1 how.Done) refl refl (λ follows.
    let lives = follows.due.0.lives in cc)

pub returns-clause-waits_while_blocked : goal.returns-clause-waits_while_blocked
unfolding two_readers_network waits_while_blocked
returns-clause-waits_while_blocked c =
    breaks_by two_readers_network 1 waits_while_blocked 1 (WaitEmpty 0 0) refl refl (λ follows.
    let free = follows.due.0.free in cc)
