-- What is told is told of what an audit finds.
use Rattle.kpn_command_views.proofs.draw.drawn_after.Goals as goal

pub returns-clause-ok : goal.returns-clause-ok
returns-clause-ok g c = (
  record {
    audited = c.in_ok-audited.audited;
    is_audited = c.in_ok-audited.ensures.ok;
    told = c.in_ok-conclusion.ensures.0;
  },
  c.in_ok-conclusion.ensures.1,
)
