use Rattle.kpn_parts.proofs.Links.{join_is_joined}
use Rattle.kpn_parts.proofs.laws.joins_are_joined_runs.Goals as goal

pub returns : goal.returns
returns c = λ t network cut is links are histories legal order join.
    join_is_joined t network cut is links are histories legal order join
