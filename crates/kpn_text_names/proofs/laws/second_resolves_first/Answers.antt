-- By the targets, which are the names that language 1 knows behind a body.
use Rattle.kpn_text_names.proofs.FirstTargets.{second_resolves}
use Rattle.kpn_text_names.proofs.laws.second_resolves_first.Goals as goal

pub returns : goal.returns
returns c = second_resolves
