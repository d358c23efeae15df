use Rattle.kpn_book.proofs.Appended.{commit_tables, commit_history, commit_commits}
use Rattle.kpn_book.proofs.laws.what_a_commit_does.Goals as goal

pub returns-clause-tables : goal.returns-clause-tables
returns-clause-tables c =
    commit_tables

pub returns-clause-history : goal.returns-clause-history
returns-clause-history c =
    commit_history

pub returns-clause-commits : goal.returns-clause-commits
returns-clause-commits c =
    commit_commits
