-- Each way, phase by phase.
use Rattle.kpn_text.proofs.ReadingLaws.{reads_spelled, spelled_reads}
use Rattle.kpn_text.proofs.laws.phases_give_what_is_spelled.Goals as goal

pub returns : goal.returns
returns c text d = (reads_spelled text d, spelled_reads text d)
