use Rattle.kpn_history.proofs.Legality.{Legal-push}
use Rattle.kpn_history.proofs.OneMore.{Legal-exactly}
use Rattle.kpn_history.proofs.laws.one_more_event.Goals as goal

pub returns-clause-exact : goal.returns-clause-exact
returns-clause-exact c = Legal-exactly

pub returns-clause-consistent : goal.returns-clause-consistent
returns-clause-consistent c = Legal-push
