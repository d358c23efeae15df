use Rattle.std.proofs.Common.{◌≡◌, refl, subst, inl, inr}
use Rattle.kpn_c.proofs.Common.{OnOk, IfErr, Closes, RefusesClose, ClosesSource}
use Rattle.kpn_c.proofs.Leading.{leads}
use Rattle.kpn_c.proofs.sessions.kpn_c_close_source.Goals as goal

pub returns-in-Ok : goal.returns-in-Ok
returns-in-Ok c =
    let said = c.close_source-session.ensures in
    let before = c.taken-boxed.result.1 in
    let after = c.close_source-session.result.0 in
    leads (ClosesSource c.args.source 0) c.args.held.slot c.put_back.result.slot before after c.taken-boxed.ensures
    c.put_back.ensures
    (record {
      document = said.document;
      keeps = said.keeps;
      closes = inl (refl, subst (λ r. OnOk r (Closes c.args.source before.book after.book)) c.in-Ok.is said.closed);
    })

pub returns-in-Err : goal.returns-in-Err
returns-in-Err c =
    let said = c.close_source-session.ensures in
    let before = c.taken-boxed.result.1 in
    let after = c.close_source-session.result.0 in
    leads (ClosesSource c.args.source c.number_of.result) c.args.held.slot c.put_back.result.slot before after
    c.taken-boxed.ensures c.put_back.ensures
    (record {
      document = said.document;
      keeps = said.keeps;
      closes =
          inr (
            c.in-Err.cause,
            c.number_of.ensures,
            subst (λ r. IfErr r (λ cause. RefusesClose c.args.source before.book cause)) c.in-Err.is said.refused,
            subst (λ r. IfErr r (λ _. after.book ≡ before.book)) c.in-Err.is said.as_before,
          );
    })
