use Rattle.kpn_cycle.proofs.Scans.{scan_none}
use Rattle.kpn_cycle.proofs.laws.scan_misses_no_cycle.Goals as goal

pub returns : goal.returns
returns c = λ t waits cap scan p others d cycle among. scan_none t waits cap scan p others d cycle among
