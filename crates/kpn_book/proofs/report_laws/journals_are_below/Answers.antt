use Rattle.kpn_book.proofs.Agreement.{journal_below}
use Rattle.kpn_book.proofs.report_laws.journals_are_below.Goals as goal

pub returns : goal.returns
returns c = journal_below
