-- The growth that is owed is that of the history.
use Rattle.kpn_audit.proofs.Common.{subst, Owes, history_of}
use Rattle.kpn_audit.proofs.scenes.scene_after.Goals as goal

pub returns-in-Some-clause-scene : goal.returns-in-Some-clause-scene
returns-in-Some-clause-scene g c =
    let t = c.args.network.now in
    let H = history_of c.args.version t c.args.before.now in
    c.growth_owed.ensures H c.in_ok-replayed.ensures.run
    (subst (λ owed. Owes t H c.in_ok-replayed.replayed.machine owed) c.in-Some.is c.in_ok-replayed.ensures.owes)
