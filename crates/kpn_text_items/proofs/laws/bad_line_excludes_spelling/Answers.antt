-- The law is proved in LawLemmas.
use Rattle.kpn_text_items.proofs.LawLemmas.{excludes_spelling}
use Rattle.kpn_text_items.proofs.laws.bad_line_excludes_spelling.Goals as goal

pub returns : goal.returns
returns c = excludes_spelling
