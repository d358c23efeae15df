use Rattle.kpn_book.proofs.Standing.{states_now, empty_count, full_count}
use Rattle.kpn_book.proofs.laws.the_history.Goals as goal

pub returns-clause-legal : goal.returns-clause-legal
returns-clause-legal c b book =
    book.kept.in_step.run.legal

pub returns-clause-states : goal.returns-clause-states
returns-clause-states c b book =
    states_now b book

pub returns-clause-empty : goal.returns-clause-empty
returns-clause-empty c b book =
    empty_count b book.network book.kept.in_step

pub returns-clause-full : goal.returns-clause-full
returns-clause-full c b book =
    full_count b book.network book.kept.in_step
