use Rattle.kpn_book.proofs.ReportsInTime.{made_if_not_enough, taken_if_not_enough, enough_in_time}
use Rattle.kpn_book.proofs.report_laws.what_is_made_in_time.Goals as goal

pub returns-clause-made : goal.returns-clause-made
returns-clause-made c t network lists limits report is here supplied other H run rounds takes enough =
    made_if_not_enough t network lists limits report is here supplied H run rounds takes enough other

pub returns-clause-taken : goal.returns-clause-taken
returns-clause-taken c t network lists limits report is here supplied other H run rounds takes enough =
    taken_if_not_enough t network lists limits report is here supplied H run rounds takes enough other

pub returns-clause-enough : goal.returns-clause-enough
returns-clause-enough c t network lists limits report is here supplied H run wanted rounds takes enough =
    enough_in_time t network lists limits report is here supplied H run rounds takes enough wanted
