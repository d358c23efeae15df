-- Both are the iterate that is above all journals of both.
use Rattle.kpn_book.proofs.Agreement.{ended_journals, ended_iterate}
use Rattle.kpn_book.proofs.report_laws.ended_reports_agree.Goals as goal

pub returns-clause-journals : goal.returns-clause-journals
returns-clause-journals c = ended_journals

pub returns-clause-iterate : goal.returns-clause-iterate
returns-clause-iterate c = ended_iterate
