use Rattle.std.proofs.Common.{◌≡◌, refl, subst, inl, inr}
use Rattle.kpn_c.proofs.Common.{OnOk, IfErr, Leaves, RefusesLeave, LeavesSink}
use Rattle.kpn_c.proofs.Leading.{leads}
use Rattle.kpn_c.proofs.sessions.kpn_c_leave_sink.Goals as goal

pub returns-in-Ok : goal.returns-in-Ok
returns-in-Ok c =
    let said = c.leave_sink-session.ensures in
    let before = c.taken-boxed.result.1 in
    let after = c.leave_sink-session.result.0 in
    leads (LeavesSink c.args.sink 0) c.args.held.slot c.put_back.result.slot before after c.taken-boxed.ensures
    c.put_back.ensures
    (record {
      document = said.document;
      keeps = said.keeps;
      leaves = inl (refl, subst (λ r. OnOk r (Leaves c.args.sink before.book after.book)) c.in-Ok.is said.left);
    })

pub returns-in-Err : goal.returns-in-Err
returns-in-Err c =
    let said = c.leave_sink-session.ensures in
    let before = c.taken-boxed.result.1 in
    let after = c.leave_sink-session.result.0 in
    leads (LeavesSink c.args.sink c.number_of.result) c.args.held.slot c.put_back.result.slot before after
    c.taken-boxed.ensures c.put_back.ensures
    (record {
      document = said.document;
      keeps = said.keeps;
      leaves =
          inr (
            c.in-Err.cause,
            c.number_of.ensures,
            subst (λ r. IfErr r (λ cause. RefusesLeave c.args.sink before.book cause)) c.in-Err.is said.refused,
            subst (λ r. IfErr r (λ _. after.book ≡ before.book)) c.in-Err.is said.as_before,
          );
    })
