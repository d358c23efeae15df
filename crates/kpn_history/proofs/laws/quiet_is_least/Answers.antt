-- The journals are below the least solution, and contain what each process puts on them.
use Rattle.kpn_history.proofs.Kahn.{least_if_quiet, least_if_quiet_given}
use Rattle.kpn_history.proofs.laws.quiet_is_least.Goals as goal

pub returns-clause-fed : goal.returns-clause-fed
returns-clause-fed c = least_if_quiet

pub returns-clause-given : goal.returns-clause-given
returns-clause-given c = least_if_quiet_given
