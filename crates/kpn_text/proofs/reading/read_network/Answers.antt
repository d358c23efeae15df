-- A text spells one document at most, and one that spells a document is not refused.
use Rattle.kpn_text.proofs.Refusals.{only_this}
use Rattle.kpn_text.proofs.reading.read_network.Goals as goal

pub returns-clause-only : goal.returns-clause-only
returns-clause-only c d spells = only_this c.args.text.now c.read_text.result c.read_text.ensures d spells
