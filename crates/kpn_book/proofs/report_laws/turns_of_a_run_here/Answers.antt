use Rattle.kpn_book.proofs.Told.{turns_within, turns_to_limit}
use Rattle.kpn_book.proofs.report_laws.turns_of_a_run_here.Goals as goal

pub returns-clause-within : goal.returns-clause-within
returns-clause-within c = turns_within

pub returns-clause-stopped : goal.returns-clause-stopped
returns-clause-stopped c = turns_to_limit
