use Rattle.kpn_deadlock.proofs.Common.{IfOk, ◌∙◌, subst, AreRings}
use Rattle.kpn_deadlock.proofs.Stated.{waits_are}
use Rattle.kpn_deadlock.proofs.among.rings_among.Goals as goal

pub returns : goal.returns
returns g c = λ H legal are.
    subst (λ waits. IfOk c.rings.result (λ told. AreRings c.args.network.now waits told))
    (c.as_slice.ensures.value ∙ c.in_ok-waits.ensures
    ∙ waits_are c.args.network.now c.known.ensures H legal c.args.states.now are)
    c.rings.ensures.exact
