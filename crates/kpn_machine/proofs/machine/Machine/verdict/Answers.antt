use Rattle.kpn_machine.proofs.Growing.{both}
use Rattle.kpn_machine.proofs.Settling.{verdict_now}
use Rattle.kpn_machine.proofs.Verdicts.{verdict_exactly}
use Rattle.kpn_machine.proofs.machine.Machine.verdict.Goals as goal

pub returns-clause-exact : goal.returns-clause-exact
returns-clause-exact g c =
    verdict_exactly c.args.network.now c.args.self.now c.judge.result c.judge.ensures

pub returns-clause-history : goal.returns-clause-history
returns-clause-history g c H run verdict =
    both (verdict_exactly c.args.network.now c.args.self.now c.judge.result c.judge.ensures verdict)
    (verdict_now c.args.network.now c.known.ensures H c.args.self.now run verdict)
