use Rattle.kpn_cycle.proofs.Scans.{scan_search}
use Rattle.kpn_cycle.proofs.laws.scan_is_search.Goals as goal

pub returns : goal.returns
returns c = λ t waits cap p below only found scan d. scan_search t waits cap p below only found scan d
