-- By the steps of reading, each of which adds only new names.
use Rattle.kpn_text_names.proofs.Once.{names_stand_once}
use Rattle.kpn_text_names.proofs.laws.names_stand_once.Goals as goal

pub returns : goal.returns
returns c = names_stand_once
