-- The report is one of the inputs and the request, and it is concluded or refused.
use Rattle.kpn_commands.proofs.Common.{inr, ◌∙◌, IfOk-weaker, IfErr-weaker, Reported}
use Rattle.kpn_commands.proofs.Running.{of_legal, reported_by}
use Rattle.kpn_commands.proofs.run.run_command.Goals as goal

pub conclusion_of-requires : goal.conclusion_of-requires
conclusion_of-requires g c = of_legal _ c.in-Ok-run_on_this_thread.ensures.report c.network-network.ensures

pub returns-clause-ok : goal.returns-clause-ok
returns-clause-ok g c =
    let ran = c.in-Ok-run_on_this_thread.ensures in
    IfOk-weaker c.conclusion_of.result _ _
    (λ made concluded. record {
      reported = _;
      is_reported =
          reported_by _ _ _ c.in-Ok.ensures.ok c.in-Ok.ensures.sinks ran.report
          (λ without. record {
            here = λ traced. ran.here (c.is_traced-traced.ensures ∙ traced);
            supplied = ran.supplied;
            few = ran.commits;
          }) c.network-network.ensures
          c.deref.ensures.value c.limits_of-limits.ensures;
      apart = c.in-Ok.ensures.apart;
      concluded = concluded;
    }) c.conclusion_of.ensures.ok

pub returns-clause-refused : goal.returns-clause-refused
returns-clause-refused g c =
    let ran = c.in-Ok-run_on_this_thread.ensures in
    let reported : Reported = record {
      inputs = c.in-Ok.loaded.inputs;
      sinks = c.in-Ok.loaded.sinks;
      report = c.in-Ok-run_on_this_thread.report;
    } in
    IfErr-weaker c.conclusion_of.result _ _
    (λ cause refused. inr (inr (record {
      reported = reported;
      is_reported =
          reported_by _ _ reported c.in-Ok.ensures.ok c.in-Ok.ensures.sinks ran.report
          (λ without. record {
            here = λ traced. ran.here (c.is_traced-traced.ensures ∙ traced);
            supplied = ran.supplied;
            few = ran.commits;
          }) c.network-network.ensures
          c.deref.ensures.value c.limits_of-limits.ensures;
      refused = refused;
    }))) c.conclusion_of.ensures.refused
