-- The law is proved in LawLemmas.
use Rattle.kpn_text_items.proofs.LawLemmas.{reads_back}
use Rattle.kpn_text_items.proofs.laws.written_items_read_back.Goals as goal

pub returns : goal.returns
returns c = reads_back
