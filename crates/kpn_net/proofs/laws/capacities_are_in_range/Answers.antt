use Rattle.kpn_net.proofs.Networks.{limit_in_range, capacity_in_range, larger_capacity_in_range}
use Rattle.kpn_net.proofs.laws.capacities_are_in_range.Goals as goal

pub returns-clause-limit : goal.returns-clause-limit
returns-clause-limit c = λ t network. limit_in_range t network

pub returns-clause-capacity : goal.returns-clause-capacity
returns-clause-capacity c = λ t network d cap below e. let r =
    capacity_in_range t network d cap below e in (r.positive, r.within)

pub returns-clause-larger : goal.returns-clause-larger
returns-clause-larger c = λ t cap some below. larger_capacity_in_range t cap some below
