-- One more round of the loop reads one thing more.
use Rattle.kpn_text_grammar.proofs.Common.{sym, ◌∙◌, err_from_is_err_and}
use Rattle.kpn_text_grammar.specs.declared.tree.Identifier.{Identifier}
use Rattle.kpn_text_grammar.proofs.Readers.{a_name, further_ones, shortens}
use Rattle.kpn_text_grammar.proofs.Rounds.{one_more, stops_here, fails_here, place_moves}
use Rattle.kpn_text_grammar.proofs.lists.names.Goals as goal

pub returns-in_err-name : goal.returns-in_err-name
returns-in_err-name c =
    let p = err_from_is_err_and c.from_residual-in_err-name.result c.from_residual-in_err-name.ensures.1 in
    rw (p.1, p.2) (fails_here c.in_err-name.field-0.0 c.names.invariant (sym c.at_mark.ensures ∙ c.names-test.true)
    c.in_err-name.ensures)

pub names-smaller : goal.names-smaller
names-smaller c =
    place_moves c.args.source.tokens.now c.names.place c.in_ok-name.after
    (shortens (further_ones c.args.source.scope (a_name {ok = Unit {0}} c.args.source.scope)) 0 c.in_ok-name.ensures)

pub names-preserved : goal.names-preserved
names-preserved c =
    one_more (λ (x : Identifier). x.bytes.now) c.names.found.items c.in_ok-name.name c.names.invariant (sym c.at_mark.ensures ∙ c.names-test.true) c.in_ok-name.ensures
    (shortens (further_ones c.args.source.scope (a_name {ok = Unit {0}} c.args.source.scope)) 0 c.in_ok-name.ensures) c.in_ok-push-2.ensures.items

pub returns : goal.returns
returns c = stops_here c.names.invariant (sym c.at_mark.ensures ∙ c.names-test.false)
