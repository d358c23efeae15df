use Rattle.kpn_book.proofs.Completing.{reports_same, report_begins}
use Rattle.kpn_book.proofs.complete_laws.complete_reports_agree.Goals as goal

pub returns-clause-same : goal.returns-clause-same
returns-clause-same c = reports_same

pub returns-clause-begins : goal.returns-clause-begins
returns-clause-begins c = report_begins
