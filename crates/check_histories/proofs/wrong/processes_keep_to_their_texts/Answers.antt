use Rattle.check_histories.proofs.Common.{lit<, refl, Ended, WaitEmpty, WaitFull, Legal-consistent}
use Rattle.kpn_history.specs.declared.event.How.TheVariants as how
use Rattle.check_histories.specs.Networks.{two_network, zero_divisor_network, overflow_network}
use Rattle.check_histories.specs.Runs.{two_run}
use Rattle.check_histories.specs.WrongLists.{puts_another_item, gets_out_of_turn, puts_for_a_fault, ends_too_early, ends_as_done, ends_as_overflow, ends_as_zero_divisor, waits_where_it_does_not_read, waits_where_it_does_not_write}
use Rattle.check_histories.proofs.Claiming.{breaks_at, breaks_by}
use Rattle.check_histories.proofs.wrong.processes_keep_to_their_texts.Goals as goal

pub returns-clause-puts_another_item : goal.returns-clause-puts_another_item
unfolding two_network puts_another_item two_run
returns-clause-puts_another_item c = breaks_at two_network 1 puts_another_item 4 refl (λ legal.
    let item = ((Legal-consistent two_network puts_another_item legal).said 0 (lit< tt)).said.1.0 in cc)

pub returns-clause-gets_out_of_turn : goal.returns-clause-gets_out_of_turn
unfolding two_network gets_out_of_turn
returns-clause-gets_out_of_turn c = breaks_at two_network 1 gets_out_of_turn 1 refl (λ legal.
    ((Legal-consistent two_network gets_out_of_turn legal).said 1 (lit< tt)).said)

pub returns-clause-puts_for_a_fault : goal.returns-clause-puts_for_a_fault
unfolding zero_divisor_network puts_for_a_fault
returns-clause-puts_for_a_fault c = breaks_at zero_divisor_network 1 puts_for_a_fault 2 refl (λ legal.
    ((Legal-consistent zero_divisor_network puts_for_a_fault legal).said 0 (lit< tt)).said.1)

pub returns-clause-ends_too_early : goal.returns-clause-ends_too_early
unfolding two_network ends_too_early
returns-clause-ends_too_early c =
    breaks_by two_network 1 ends_too_early 1 (Ended 0 how.Done) refl refl (λ follows.
    let said = follows.due.1.said in cc)

pub returns-clause-ends_as_done : goal.returns-clause-ends_as_done
unfolding zero_divisor_network ends_as_done
returns-clause-ends_as_done c =
    breaks_by zero_divisor_network 1 ends_as_done 1 (Ended 0 how.Done) refl refl (λ follows.
    let ended = follows.due.1.ended in cc)

pub returns-clause-ends_as_overflow : goal.returns-clause-ends_as_overflow
unfolding zero_divisor_network ends_as_overflow
returns-clause-ends_as_overflow c =
    breaks_by zero_divisor_network 1 ends_as_overflow 1 (Ended 0 how.Overflow) refl refl (λ follows.
    let ended = follows.due.1.ended in cc)

pub returns-clause-ends_as_zero_divisor : goal.returns-clause-ends_as_zero_divisor
unfolding overflow_network ends_as_zero_divisor
returns-clause-ends_as_zero_divisor c =
    breaks_by overflow_network 1 ends_as_zero_divisor 1 (Ended 0 how.ZeroDivisor) refl refl (λ follows.
    let ended = follows.due.1.ended in cc)

pub returns-clause-does_not_read : goal.returns-clause-does_not_read
unfolding two_network waits_where_it_does_not_read
returns-clause-does_not_read c =
    breaks_by two_network 1 waits_where_it_does_not_read 0 (WaitEmpty 1 0) refl refl (λ follows.
    let ended = follows.due.1.starved.ended in cc)

pub returns-clause-does_not_write : goal.returns-clause-does_not_write
unfolding two_network waits_where_it_does_not_write two_run
returns-clause-does_not_write c =
    breaks_by two_network 1 waits_where_it_does_not_write 5 (WaitFull 0 0) refl refl (λ follows.
    let item = follows.due.1.next.said.1.1.0 in cc)
