use Rattle.kpn_book.proofs.FinalReports.{outcomes_agree}
use Rattle.kpn_book.proofs.report_laws.outcomes_agree.Goals as goal

pub returns : goal.returns
returns c = outcomes_agree
