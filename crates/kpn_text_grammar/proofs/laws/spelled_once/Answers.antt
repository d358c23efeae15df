-- Both are what is read.
use Rattle.kpn_text_grammar.proofs.DescriptionLaws.{one_description}
use Rattle.kpn_text_grammar.proofs.laws.spelled_once.Goals as goal

pub returns : goal.returns
returns c = one_description
