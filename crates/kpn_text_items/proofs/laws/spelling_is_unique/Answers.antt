-- The law is proved in LawLemmas.
use Rattle.kpn_text_items.proofs.LawLemmas.{is_unambiguous}
use Rattle.kpn_text_items.proofs.laws.spelling_is_unique.Goals as goal

pub returns : goal.returns
returns c = is_unambiguous
