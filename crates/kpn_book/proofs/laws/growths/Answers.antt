use Rattle.kpn_book.proofs.Common.{nothing_can_grow, no_wait_left}
use Rattle.kpn_book.proofs.Standing.{owed_then, told_then}
use Rattle.kpn_book.proofs.laws.growths.Goals as goal

pub returns-clause-owed : goal.returns-clause-owed
returns-clause-owed c b book =
    owed_then b book

pub returns-clause-told : goal.returns-clause-told
returns-clause-told c b book =
    told_then b book

pub returns-clause-none_is_left : goal.returns-clause-none_is_left
returns-clause-none_is_left c b book =
    nothing_can_grow b.tables book.network b.history book.kept.in_step.run.legal book.kept.nothing_owed

pub returns-clause-at_stop : goal.returns-clause-at_stop
returns-clause-at_stop c b book policy settled p channel there waits =
    no_wait_left b.tables book.network b.history book.kept.in_step.run.legal book.kept.nothing_owed policy settled p
    channel there waits
