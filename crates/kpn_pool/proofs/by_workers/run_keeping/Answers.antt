use Rattle.std.proofs.lemmas.Result.{IfOk-weaker}
use Rattle.kpn_pool.proofs.by_workers.run_keeping.Goals as goal

pub returns-clause-kept : goal.returns-clause-kept
returns-clause-kept g c =
    IfOk-weaker c.conclude.result _ _ (λ report is. is c.args.plan.now.keeping c.in_ok-ran.ensures.kept)
    c.conclude.ensures.kept
