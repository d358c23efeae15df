use Rattle.kpn_book.proofs.FinalReports.{reports_agree}
use Rattle.kpn_book.proofs.report_laws.verdict_reports_agree.Goals as goal

pub returns : goal.returns
returns c = reports_agree
