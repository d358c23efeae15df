use Rattle.kpn_c.proofs.Common.{cond, sym, ap, StepsProcesses}
use Rattle.kpn_c.proofs.Leading.{leads}
use Rattle.kpn_c.proofs.sessions.kpn_c_step.Goals as goal

pub returns-then-stepped : goal.returns-then-stepped
returns-then-stepped c =
    let stepped = c.step-session.result.1 in
    leads (StepsProcesses c.args.most 42 stepped.commits) c.args.held.slot c.put_back.result.slot c.taken-boxed.result.1
    c.step-session.result.0 c.taken-boxed.ensures c.put_back.ensures
    (record {
      document = c.step-session.ensures.document;
      keeps = c.step-session.ensures.keeps;
      is_refused = stepped.is_refused;
      number = ap (λ b. cond b 42 0) (sym c.if-stepped.true);
      steps = c.step-session.ensures.stepped;
    })

pub returns-else-stepped : goal.returns-else-stepped
returns-else-stepped c =
    let stepped = c.step-session.result.1 in
    leads (StepsProcesses c.args.most 0 stepped.commits) c.args.held.slot c.put_back.result.slot c.taken-boxed.result.1
    c.step-session.result.0 c.taken-boxed.ensures c.put_back.ensures
    (record {
      document = c.step-session.ensures.document;
      keeps = c.step-session.ensures.keeps;
      is_refused = stepped.is_refused;
      number = ap (λ b. cond b 42 0) (sym c.if-stepped.false);
      steps = c.step-session.ensures.stepped;
    })
