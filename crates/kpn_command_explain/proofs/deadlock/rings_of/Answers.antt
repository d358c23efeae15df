-- The network is that of the document.
use Rattle.std.specs.Prelude.{IfOk}
use Rattle.kpn_command_explain.proofs.Common.{List, subst, Tables, AreRings}
use Rattle.kpn_net.specs.declared.wait.Wait.{Wait}
use Rattle.kpn_command_explain.proofs.deadlock.rings_of.Goals as goal

pub returns : goal.returns
returns c =
    subst (λ (t : Tables). IfOk c.rings.result (λ told. AreRings t c.args.audit.now.waits told)) c.network.ensures
    (subst (λ (waits : List Wait). IfOk c.rings.result (λ told. AreRings c.network.result.now waits told))
    c.as_slice.ensures c.rings.ensures.exact)
