use Rattle.kpn_history.proofs.Capacities.{in_limit}
use Rattle.kpn_history.proofs.growth_laws.capacities_stay_within_the_limit.Goals as goal

pub returns : goal.returns
returns c t network H legal = (in_limit t network H legal).each
