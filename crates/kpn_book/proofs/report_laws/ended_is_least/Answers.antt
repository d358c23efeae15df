use Rattle.kpn_book.proofs.Agreement.{journal_least}
use Rattle.kpn_book.proofs.report_laws.ended_is_least.Goals as goal

pub returns : goal.returns
returns c = journal_least
