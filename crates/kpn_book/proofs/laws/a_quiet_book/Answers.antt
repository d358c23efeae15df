use Rattle.kpn_machine.proofs.Moments.{quiet_now, least_when_quiet}
use Rattle.kpn_book.proofs.laws.a_quiet_book.Goals as goal

pub returns : goal.returns
returns c b book quiet =
    least_when_quiet b.tables book.network b.history b.machine book.kept.in_step.run
    ((quiet_now b.tables book.network b.history b.machine book.kept.in_step.run).1 quiet)
