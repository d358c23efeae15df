-- The audit is one of the network that the file spells.
use Rattle.kpn_command_base.proofs.Common.{subst, Tables}
use Rattle.kpn_command_base.specs.Audited.{IsFinding}
use Rattle.kpn_command_base.proofs.auditing.load_audited.Goals as goal

pub returns-clause-ok : goal.returns-clause-ok
returns-clause-ok g c = record {
  described = c.in_ok-document.ensures.ok;
  traced = c.in_ok-trace.ensures.ok;
  found =
      subst (λ (t : Tables). IsFinding t c.in_ok-trace.trace c.args.steps c.in_ok-finding.finding) c.network.ensures
      c.in_ok-finding.ensures.found;
}
