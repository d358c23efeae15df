use Rattle.kpn_book.proofs.Completing.{taken_is_least}
use Rattle.kpn_book.proofs.complete_laws.complete_sinks_are_least.Goals as goal

pub returns : goal.returns
returns c = taken_is_least
