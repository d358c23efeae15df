use Rattle.kpn_history.proofs.Stops.{quiet_where_ended, jammed_at_limit, waits_for_blocked, only_a_leave}
use Rattle.kpn_book.proofs.laws.what_a_verdict_means.Goals as goal

pub returns-clause-ended : goal.returns-clause-ended
returns-clause-ended c b book v =
    quiet_where_ended b.tables b.history v

pub returns-clause-jammed : goal.returns-clause-jammed
returns-clause-jammed c b book v =
    jammed_at_limit b.tables book.network b.history book.kept.in_step.run.legal book.kept.nothing_owed v

pub returns-clause-clogged : goal.returns-clause-clogged
returns-clause-clogged c b book v =
    waits_for_blocked b.tables book.network b.history book.kept.in_step.run.legal v.0

pub returns-clause-no_cycle : goal.returns-clause-no_cycle
returns-clause-no_cycle c b book v =
    v.1

pub returns-clause-last : goal.returns-clause-last
returns-clause-last c b book settled =
    only_a_leave b.tables b.history settled book.kept.nothing_owed
