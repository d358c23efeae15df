use Rattle.kpn_machine.proofs.Moments.{goes_on_now}
use Rattle.kpn_book.proofs.laws.frames_go_on.Goals as goal

pub returns : goal.returns
returns c b book = goes_on_now b.tables book.network b.history b.machine book.kept.in_step.run
