-- Without the flag the words ask for a description or a trace. Items with a trace ask for nothing.
use Rattle.kpn_command_line.proofs.Common.{◌∙◌, ap, refl, sym, option_map, rows_in}
use Rattle.kpn_command_line.proofs.Nothing.{no_items_with_trace, usage_if}
use Rattle.kpn_command_line.proofs.words.explain_request.Goals as goal

pub returns-then-not-is_set : goal.returns-then-not-is_set
returns-then-not-is_set c = (
  refl,
  (
    c.in_ok-file.ensures,
    c.text_of-trace.ensures,
    c.count_or_usual-steps.ensures,
    sym c.is_set.ensures ∙ c.if-not-is_set.true,
  ),
)

pub returns-in-None : goal.returns-in-None
returns-in-None c = (
  refl,
  (
    c.in_ok-file.ensures,
    c.text_of-trace.ensures ∙ ap (option_map (λ trace. trace.now)) c.in-None.is,
    sym c.is_set.ensures ∙ c.if-not-is_set.false,
  ),
)

pub returns-in-Some : goal.returns-in-Some
returns-in-Some c =
    usage_if _ c.unclear.result
    (no_items_with_trace (rows_in c.args.explain.now) c.in-Some.field-0.now
    (sym c.is_set.ensures ∙ c.if-not-is_set.false)
    (c.text_of-trace.ensures ∙ ap (option_map (λ trace. trace.now)) c.in-Some.is))
