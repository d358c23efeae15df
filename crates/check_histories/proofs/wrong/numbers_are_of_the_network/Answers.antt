use Rattle.check_histories.proofs.Common.{pos, arith, refl, ◌<◌, Ended, Get, Put}
use Rattle.kpn_history.specs.declared.event.How.TheVariants as how
use Rattle.check_histories.specs.Networks.{ended_reader_network}
use Rattle.check_histories.specs.WrongLists.{nobody_puts, nobody_gets, nobody_ends, nobody_puts_nowhere}
use Rattle.check_histories.proofs.Claiming.{breaks_by}
use Rattle.check_histories.proofs.wrong.numbers_are_of_the_network.Goals as goal

pub returns-clause-nobody_puts : goal.returns-clause-nobody_puts
unfolding ended_reader_network nobody_puts
returns-clause-nobody_puts c =
    breaks_by ended_reader_network 1 nobody_puts 0 (Put 2 0 (pos 1)) refl refl (λ follows.
    let below : 2 < 2 = follows.numbers.0 in omega arith)

pub returns-clause-nobody_gets : goal.returns-clause-nobody_gets
unfolding ended_reader_network nobody_gets
returns-clause-nobody_gets c =
    breaks_by ended_reader_network 1 nobody_gets 1 (Get 2 0 (pos 1)) refl refl (λ follows.
    let below : 2 < 2 = follows.numbers.0 in omega arith)

pub returns-clause-nobody_ends : goal.returns-clause-nobody_ends
unfolding ended_reader_network nobody_ends
returns-clause-nobody_ends c =
    breaks_by ended_reader_network 1 nobody_ends 0 (Ended 2 how.Done) refl refl (λ follows.
    let below : 2 < 2 = follows.numbers in omega arith)

pub returns-clause-nobody_puts_nowhere : goal.returns-clause-nobody_puts_nowhere
unfolding ended_reader_network nobody_puts_nowhere
returns-clause-nobody_puts_nowhere c =
    breaks_by ended_reader_network 1 nobody_puts_nowhere 0 (Put 2 1 (pos 1)) refl refl (λ follows.
    let below : 2 < 2 = follows.numbers.0 in omega arith)
