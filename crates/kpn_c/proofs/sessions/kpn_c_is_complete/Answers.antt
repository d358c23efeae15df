use Rattle.kpn_c.proofs.Common.{refl, subst, inl, TellsCompleteness, TellsIfComplete}
use Rattle.kpn_c.proofs.Leading.{leads}
use Rattle.kpn_c.proofs.sessions.kpn_c_is_complete.Goals as goal

pub returns-in-Some : goal.returns-in-Some
returns-in-Some c =
    let before = c.taken-boxed.result.1 in
    leads (TellsIfComplete c.args.channel 0 c.in-Some.is_complete) c.args.held.slot c.put_back.result.slot before
    c.is_complete-session.result.0 c.taken-boxed.ensures c.put_back.ensures
    (record {
      same = c.is_complete-session.ensures.same;
      tells = inl (
        refl,
        subst (λ told. TellsCompleteness c.args.channel told before.book) c.in-Some.is
            c.is_complete-session.ensures.complete,
      );
    })
