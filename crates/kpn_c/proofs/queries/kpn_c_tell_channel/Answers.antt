use Rattle.kpn_c.proofs.Common.{refl, subst, inl, Asks, TellsChannel}
use Rattle.kpn_c.specs.Telling.{TellsState}
use Rattle.kpn_c.proofs.Leading.{leads}
use Rattle.kpn_c.proofs.queries.kpn_c_tell_channel.Goals as goal

pub returns-in-Some : goal.returns-in-Some
returns-in-Some c =
    let before = c.taken-boxed.result.1 in
    leads (Asks (TellsChannel c.args.channel 0 c.in-Some.found)) c.args.held.slot c.put_back.result.slot before
    c.channel_state-session.result.0 c.taken-boxed.ensures c.put_back.ensures
    (record {
      same = c.channel_state-session.ensures.same;
      told = inl (
        refl,
        subst (λ told. TellsState c.args.channel told before.book) c.in-Some.is
            c.channel_state-session.ensures.told,
      );
    })
