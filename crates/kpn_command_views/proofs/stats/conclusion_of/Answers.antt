-- Any text is right of a legal history.
use Rattle.std.proofs.Common.{refl}
use Rattle.kpn_command_views.proofs.stats.conclusion_of.Goals as goal

pub returns-in_ok-text-in-Legal : goal.returns-in_ok-text-in-Legal
returns-in_ok-text-in-Legal c = rw c.in-Legal.is ((tt, refl), c.new.ensures.items)

pub returns-in-NotLegal : goal.returns-in-NotLegal
returns-in-NotLegal c = rw c.in-NotLegal.is c.conclusion.ensures
