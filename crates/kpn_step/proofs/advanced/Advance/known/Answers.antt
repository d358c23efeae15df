-- The frame's next statement names a port of the program.
use Rattle.kpn_step.proofs.Common.{subst, Advanced, IsAtPort}
use Rattle.kpn_step.proofs.MayStep.{at_port}
use Rattle.kpn_step.proofs.advanced.Advance.known.Goals as goal

pub returns-clause-port : goal.returns-clause-port
returns-clause-port c =
    let held = c.self.inside in
    let there = at_port held.program.now c.known.ensures held.to held.stop c.self.invariant.stands in
    subst (λ (a : Advanced). IsAtPort a.program a.to a.stop) c.self.view_is there
