-- By the description that was read.
use Rattle.kpn_text.proofs.NamesAreText.{names_are_text}
use Rattle.kpn_text.proofs.laws.names_are_text.Goals as goal

pub returns : goal.returns
returns c = names_are_text c.read_descriptions_are_proper.ensures
