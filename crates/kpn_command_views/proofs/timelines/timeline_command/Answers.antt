-- What is told is told of what an audit finds.
use Rattle.kpn_command_views.proofs.timelines.timeline_command.Goals as goal

pub returns-clause-ok : goal.returns-clause-ok
returns-clause-ok g c =
    let made = c.in_ok-status.ensures.ok in
    record {
      text = made.text;
      right = record {
        audited = c.in_ok-audited.audited;
        is_audited = c.in_ok-audited.ensures.ok;
        told = made.right;
      };
      sent = made.sent;
    }
