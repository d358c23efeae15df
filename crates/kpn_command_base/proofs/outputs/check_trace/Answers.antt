-- The trace is refused if it is not apart from the inputs.
use Rattle.kpn_command_base.proofs.Common.{rules, ◌≡◌, IfErr, Some, map, option_map, ap, sym, ◌∙◌, IfErr-weaker, TraceWord, IsRefusalOfOutput}
use Rattle.kpn_command_base.proofs.Apart.{now, trace_refused}
use Rattle.kpn_command_base.proofs.outputs.check_trace.Goals as goal

pub returns-in_err-add_output-in-Some-clause-refused : goal.returns-in_err-add_output-in-Some-clause-refused
returns-in_err-add_output-in-Some-clause-refused g c =
    let may_alias = g.S.Shelf.may_alias c.args.shelf.now in
    let asked = c.args.asked.now in
    let name = c.in-Some.name.now in
    let outputs = map now c.new-names.result.items in
    let some : Some name ≡ asked.trace =
    sym (ap (option_map now) c.in-Some.is) ∙ ap (λ r. r.trace) c.asked.view_is in
    let h : IfErr c.from_residual.result (IsRefusalOfOutput may_alias asked outputs name TraceWord) = search rules in
    IfErr-weaker c.from_residual.result (IsRefusalOfOutput may_alias asked outputs name TraceWord) _
    (trace_refused may_alias asked asked.trace name some outputs (ap (map now) c.new-names.ensures.items) TraceWord)
    h
