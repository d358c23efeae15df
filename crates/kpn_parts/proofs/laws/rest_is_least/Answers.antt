-- The journals are below the least solution, and contain what each process puts on them.
use Rattle.kpn_parts.proofs.Rest.{least_if_quiet, least_at_rest, part_least_at_rest, quiet_at_rest}
use Rattle.kpn_parts.proofs.laws.rest_is_least.Goals as goal

pub returns-clause-whole : goal.returns-clause-whole
returns-clause-whole c = λ t network cut is order joined quiet delivered given agree d.
    least_at_rest t network cut is order joined quiet delivered given agree d

pub returns-clause-parts : goal.returns-clause-parts
returns-clause-parts c = λ t network cut is order joined quiet delivered given agree r d there.
    part_least_at_rest t network cut is order joined quiet delivered given agree r d there

pub returns-clause-quiet : goal.returns-clause-quiet
returns-clause-quiet c = λ t network cut is order joined quiet given agree d.
    least_if_quiet t network cut is order joined quiet given agree d

pub returns-clause-settled : goal.returns-clause-settled
returns-clause-settled c = λ t network cut is order joined rest. quiet_at_rest t network cut is order joined rest
