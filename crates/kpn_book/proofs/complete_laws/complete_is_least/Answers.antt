use Rattle.kpn_book.proofs.Completing.{report_is_least}
use Rattle.kpn_book.proofs.complete_laws.complete_is_least.Goals as goal

pub returns : goal.returns
returns c = report_is_least
