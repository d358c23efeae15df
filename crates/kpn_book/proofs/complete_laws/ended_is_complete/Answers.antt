use Rattle.kpn_book.proofs.Completing.{complete_if_ended_well}
use Rattle.kpn_book.proofs.complete_laws.ended_is_complete.Goals as goal

pub returns : goal.returns
returns c = complete_if_ended_well
