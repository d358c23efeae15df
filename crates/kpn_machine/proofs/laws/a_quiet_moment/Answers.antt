use Rattle.kpn_machine.proofs.Moments.{quiet_now, least_when_quiet}
use Rattle.kpn_machine.proofs.laws.a_quiet_moment.Goals as goal

pub returns-clause-quiet : goal.returns-clause-quiet
returns-clause-quiet c = quiet_now

pub returns-clause-least : goal.returns-clause-least
returns-clause-least c = least_when_quiet
