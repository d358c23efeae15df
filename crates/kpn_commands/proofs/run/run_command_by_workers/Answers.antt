-- The report is one of the inputs and the request, and it is concluded or refused.
use Rattle.kpn_commands.proofs.Common.{IfOk-weaker, IfErr-weaker, ◌≡◌, ◌∙◌, Some, sym, ap, inr, Reported}
use Rattle.kpn_commands.proofs.Running.{of_legal, reported_by, has_workers}
use Rattle.kpn_commands.proofs.run.run_command_by_workers.Goals as goal

pub conclusion_of-requires : goal.conclusion_of-requires
conclusion_of-requires g c = of_legal _ c.in-Ok-run_by_workers.ensures.report c.network-network.ensures

pub returns-clause-ok : goal.returns-clause-ok
returns-clause-ok g c =
    let workers : Some c.in-Some.workers ≡ c.args.request.now.workers =
    sym c.in-Some.is ∙ ap (λ r. r.workers) c.request.view_is in
    IfOk-weaker c.conclusion_of.result _ _
    (λ made concluded. record {
      reported = _;
      is_reported =
          reported_by _ _ _ c.in-Ok.ensures.ok c.in-Ok.ensures.sinks c.in-Ok-run_by_workers.ensures.report
          (λ without. absurd (has_workers c.in-Some.workers c.args.request.now.workers workers without))
          c.network-network.ensures c.deref.ensures.value c.limits_of-limits.ensures;
      apart = c.in-Ok.ensures.apart;
      concluded = concluded;
    }) c.conclusion_of.ensures.ok

pub returns-clause-refused : goal.returns-clause-refused
returns-clause-refused g c =
    let workers : Some c.in-Some.workers ≡ c.args.request.now.workers =
    sym c.in-Some.is ∙ ap (λ r. r.workers) c.request.view_is in
    let reported : Reported = record {
      inputs = c.in-Ok.loaded.inputs;
      sinks = c.in-Ok.loaded.sinks;
      report = c.in-Ok-run_by_workers.report;
    } in
    IfErr-weaker c.conclusion_of.result _ _
    (λ cause refused. inr (inr (record {
      reported = reported;
      is_reported =
          reported_by _ _ reported c.in-Ok.ensures.ok c.in-Ok.ensures.sinks c.in-Ok-run_by_workers.ensures.report
          (λ without. absurd (has_workers c.in-Some.workers c.args.request.now.workers workers without))
          c.network-network.ensures c.deref.ensures.value c.limits_of-limits.ensures;
      refused = refused;
    }))) c.conclusion_of.ensures.refused
