-- The phases return one document at most.
use Rattle.kpn_text.proofs.ReadingLaws.{one_document}
use Rattle.kpn_text.proofs.laws.spelled_once.Goals as goal

pub returns : goal.returns
returns c = one_document
