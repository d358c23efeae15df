use Rattle.kpn_c.proofs.Common.{refl, subst, inl, LooksInto, TellsNext, Asks}
use Rattle.kpn_c.proofs.Leading.{leads}
use Rattle.kpn_c.proofs.queries.kpn_c_look.Goals as goal

pub returns-in-Some : goal.returns-in-Some
returns-in-Some c =
    let before = c.taken-boxed.result.1 in
    let room = c.args.room.now in
    let kept = c.look-session.new.room in
    leads (Asks (TellsNext c.args.channel 0 c.in-Some.shown room kept)) c.args.held.slot c.put_back.result.slot before
    c.look-session.result.0 c.taken-boxed.ensures c.put_back.ensures
    (record {
      same = c.look-session.ensures.same;
      told = inl (
        refl,
        subst (λ told. LooksInto c.args.channel told room kept before.book) c.in-Some.is c.look-session.ensures.told,
      );
    })
