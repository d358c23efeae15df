-- Each finding has its text under its status.
use Rattle.std.proofs.Common.{refl}
use Rattle.kpn_commands.proofs.audit.conclusion_of.Goals as goal

pub returns-in_ok-text_of_audit-in-Legal : goal.returns-in_ok-text_of_audit-in-Legal
returns-in_ok-text_of_audit-in-Legal c = rw c.in-Legal.is ((c.in_ok-text_of_audit-in-Legal.ensures, refl), c.new.ensures.items)

pub returns-in-NotLegal : goal.returns-in-NotLegal
returns-in-NotLegal c = rw c.in-NotLegal.is c.conclusion.ensures
