-- One more round of the loop reads one thing more.
use Rattle.kpn_text_grammar.proofs.Common.{sym, ◌∙◌, err_from_is_err_and, literal_seen}
use Rattle.kpn_text_grammar.proofs.Readers.{further_ones, shortens}
use Rattle.kpn_text_grammar.proofs.Rounds.{one_more, stops_here, fails_here, place_moves}
use Rattle.kpn_text_grammar.proofs.ValueLaws.{literal_reads}
use Rattle.kpn_text_grammar.proofs.lists.values.Goals as goal

pub returns-in_err-value : goal.returns-in_err-value
returns-in_err-value c =
    let p = err_from_is_err_and c.from_residual-in_err-value.result c.from_residual-in_err-value.ensures.1 in
    rw (p.1, p.2) (fails_here c.in_err-value.field-0.0 c.values.invariant (sym c.at_mark.ensures ∙ c.values-test.true)
    c.in_err-value.ensures)

pub values-smaller : goal.values-smaller
values-smaller c =
    place_moves c.args.source.tokens.now c.values.place c.in_ok-value.after
    (shortens (further_ones c.args.source.scope (literal_reads c.args.source.scope)) 0 c.in_ok-value.ensures)

pub values-preserved : goal.values-preserved
values-preserved c =
    one_more literal_seen c.values.found.items c.in_ok-value.value c.values.invariant (sym c.at_mark.ensures ∙ c.values-test.true) c.in_ok-value.ensures
    (shortens (further_ones c.args.source.scope (literal_reads c.args.source.scope)) 0 c.in_ok-value.ensures) c.in_ok-push-2.ensures.items

pub returns : goal.returns
returns c = stops_here c.values.invariant (sym c.at_mark.ensures ∙ c.values-test.false)
