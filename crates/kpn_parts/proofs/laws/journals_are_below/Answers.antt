-- One iterate is above all journals, and what a part was fed begins what was put.
use Rattle.kpn_parts.proofs.Below.{below_least, part_below_least}
use Rattle.kpn_parts.proofs.laws.journals_are_below.Goals as goal

pub returns-clause-whole : goal.returns-clause-whole
returns-clause-whole c = λ t network cut is order joined given begun d.
    below_least t network cut is given order joined begun d

pub returns-clause-parts : goal.returns-clause-parts
returns-clause-parts c = λ t network cut is order joined given begun r d there.
    part_below_least t network cut is given order joined begun r d there
