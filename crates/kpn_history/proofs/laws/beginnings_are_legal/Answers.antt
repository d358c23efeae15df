use Rattle.kpn_history.proofs.Legality.{Legal-nil, Legal-prefix}
use Rattle.kpn_history.proofs.laws.beginnings_are_legal.Goals as goal

pub returns-clause-empty : goal.returns-clause-empty
returns-clause-empty c = Legal-nil

pub returns-clause-prefix : goal.returns-clause-prefix
returns-clause-prefix c = Legal-prefix
