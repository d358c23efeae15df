use Rattle.std.proofs.Common.{arith}
use Rattle.kpn_book.proofs.Agreement.{taken_agree, taken_length, enough_taken, enough_agree}
use Rattle.kpn_book.proofs.report_laws.first_items_agree.Goals as goal

pub returns-clause-first : goal.returns-clause-first
returns-clause-first c = taken_agree

pub returns-clause-enough : goal.returns-clause-enough
returns-clause-enough c t lists limits report is e items wanted sink below =
    let long = taken_length t lists limits report is in
    enough_taken t lists limits report is e items wanted sink (omega arith)

pub returns-clause-same : goal.returns-clause-same
returns-clause-same c = enough_agree
