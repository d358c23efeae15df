use Rattle.kpn_book.proofs.RoundsHere.{takes_rounds}
use Rattle.kpn_book.proofs.report_laws.a_run_takes_rounds.Goals as goal

pub returns : goal.returns
returns c t lists limits report here quota some = takes_rounds t lists limits report here quota some
