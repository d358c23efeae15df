use Rattle.std.proofs.Common.{arith}
use Rattle.kpn_pool_desk.proofs.worker.Worker.come_back.Goals as goal

pub returns-clause-asked : goal.returns-clause-asked
returns-clause-asked g c less =
    let most = c.come_back_with_turns.ensures.asked in
    absurd (omega (arith, less, most))
