-- One iterate is above all journals, and it grows with what is given.
use Rattle.kpn_history.proofs.Kahn.{below_least, below_least_fed}
use Rattle.kpn_history.proofs.laws.journals_are_below.Goals as goal

pub returns-clause-fed : goal.returns-clause-fed
returns-clause-fed c = below_least_fed

pub returns-clause-given : goal.returns-clause-given
returns-clause-given c = below_least
