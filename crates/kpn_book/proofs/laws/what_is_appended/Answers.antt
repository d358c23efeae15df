use Rattle.kpn_book.proofs.Appended.{tables_stay, history_then, commits_stay}
use Rattle.kpn_book.proofs.laws.what_is_appended.Goals as goal

pub returns-clause-tables : goal.returns-clause-tables
returns-clause-tables c =
    tables_stay

pub returns-clause-history : goal.returns-clause-history
returns-clause-history c =
    history_then

pub returns-clause-commits : goal.returns-clause-commits
returns-clause-commits c =
    commits_stay
