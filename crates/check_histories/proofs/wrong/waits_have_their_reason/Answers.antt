use Rattle.check_histories.proofs.Common.{refl, WaitEmpty, WaitFull}
use Rattle.check_histories.specs.Networks.{copy_network, two_network, ended_reader_network}
use Rattle.check_histories.specs.WrongLists.{waits_for_an_unread_item, waits_with_room, waits_for_an_ended_reader, waits_for_a_left_sink}
use Rattle.check_histories.proofs.Claiming.{breaks_by}
use Rattle.check_histories.proofs.wrong.waits_have_their_reason.Goals as goal

pub returns-clause-unread_item : goal.returns-clause-unread_item
unfolding copy_network waits_for_an_unread_item
returns-clause-unread_item c =
    breaks_by copy_network 3 waits_for_an_unread_item 1 (WaitEmpty 0 0) refl refl (λ follows.
    let empty = follows.due.1.empty in cc)

pub returns-clause-room : goal.returns-clause-room
unfolding two_network waits_with_room
returns-clause-room c =
    breaks_by two_network 1 waits_with_room 0 (WaitFull 0 0) refl refl (λ follows.
    let full = follows.due.1.full in cc)

pub returns-clause-ended_reader : goal.returns-clause-ended_reader
unfolding ended_reader_network waits_for_an_ended_reader
returns-clause-ended_reader c =
    breaks_by ended_reader_network 1 waits_for_an_ended_reader 2 (WaitFull 0 0) refl refl (λ follows.
    let full = follows.due.1.full in cc)

pub returns-clause-left_sink : goal.returns-clause-left_sink
unfolding copy_network waits_for_a_left_sink
returns-clause-left_sink c =
    breaks_by copy_network 3 waits_for_a_left_sink 6 (WaitFull 0 1) refl refl (λ follows.
    let full = follows.due.1.full in cc)
