-- What is told of a flaw is told of what an audit of the two files finds.
use Rattle.kpn_commands.proofs.Common.{subst, Tables}
use Rattle.kpn_command_base.specs.Audited.{IsFinding}
use Rattle.kpn_commands.proofs.join.load_part.Goals as goal

pub returns-in_ok-flaw_in-in-NotLegal-clause-flawed : goal.returns-in_ok-flaw_in-in-NotLegal-clause-flawed
returns-in_ok-flaw_in-in-NotLegal-clause-flawed g c = (
  record {
    audited =
        record {
          document = c.in_ok-document.document;
          trace = c.in_ok-trace.trace;
          finding = c.in_ok-flaw.field-0;
        };
    is_audited =
        record {
          described = c.in_ok-document.ensures.ok;
          traced = c.in_ok-trace.ensures.ok.0;
          found =
              subst (λ (t : Tables). IsFinding t c.in_ok-trace.trace c.args.steps c.in_ok-flaw.field-0)
              c.network.ensures c.in_ok-flaw.ensures.found;
        };
    flaw = c.in-NotLegal.flaw;
    found = c.in-NotLegal.is;
    told = c.in_ok-flaw_in-in-NotLegal.ensures.0;
  },
  c.in_ok-flaw_in-in-NotLegal.ensures.1,
)
