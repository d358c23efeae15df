-- What is told, the trace and the status.
use Rattle.kpn_command_stream.proofs.Common.{◌∙◌, subst, rules, Tables, IsTraceKept, summary_with}
use Rattle.kpn_command_stream.proofs.Ended.{is_true, made_told, none_lost, nothing_failed}
use Rattle.kpn_command_stream.proofs.concluding.conclude_over.Goals as goal

pub returns : goal.returns
returns g c = (
  c.keep_trace-stored.result,
  c.tell-is_told.result,
  subst
      (λ (t : Tables).
      IsTraceKept g.S.Shelf.may_give c.args.request.now.trace t c.args.over.now c.args.shelf.now
      c.keep_trace-stored.new.shelf c.keep_trace-stored.result)
      c.network.ensures c.keep_trace-stored.ensures,
  λ none no_tables.
      let all = nothing_failed c.args.ending c.args.lost.now c.keep_trace-stored.result c.tell-is_told.result none in
      made_told g.E.Write.contents c.args.request.now.quiet c.ends_told-ends.result
      (summary_with c.args.document.now c.args.over.now) c.args.over.now.sinks.items c.args.err.now
      c.tell-is_told.new.err c.report_summary-untold.new.err
      (c.report_summary-untold.ensures.silent (c.report_summary-untold.ensures.fault ∙ all.summary)
      ∙ c.report_trace-unstored.ensures.silent (c.report_trace-unstored.ensures.fault ∙ all.trace)
      ∙ c.report_failed-failed.ensures.silent (c.report_failed-failed.ensures.fault ∙ all.devices))
      (c.ends_told-ends.ensures all.at_end (none_lost c.args.lost.now all.no_loss))
      (c.tell-is_told.ensures (is_true c.tell-is_told.result all.summary) no_tables),
  search rules,
)
