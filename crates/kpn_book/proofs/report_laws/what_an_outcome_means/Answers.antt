use Rattle.kpn_book.proofs.Agreement.{jammed_means, clogged_means, waits_at_limit}
use Rattle.kpn_book.proofs.report_laws.what_an_outcome_means.Goals as goal

pub returns-clause-jammed : goal.returns-clause-jammed
returns-clause-jammed c = jammed_means

pub returns-clause-clogged : goal.returns-clause-clogged
returns-clause-clogged c = clogged_means

pub returns-clause-at_limit : goal.returns-clause-at_limit
returns-clause-at_limit c = waits_at_limit
