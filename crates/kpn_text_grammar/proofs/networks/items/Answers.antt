-- One more round of the loop reads one thing more.
use Rattle.kpn_text_grammar.proofs.Common.{sym, ◌∙◌, err_from_is_err_and, tokens_from, item_seen}
use Rattle.kpn_text_grammar.specs.Reading.{all_of}
use Rattle.kpn_text_grammar.proofs.NetworkLaws.{item_ones}
use Rattle.kpn_text_grammar.proofs.Readers.{shortens}
use Rattle.kpn_text_grammar.proofs.Rounds.{at_first, one_more, stops_here, fails_here, place_moves}
use Rattle.kpn_text_grammar.proofs.networks.items.Goals as goal

pub items-init : goal.items-init
unfolding all_of
items-init c =
    at_first item_seen c.new-found.result.items (tokens_from c.args.source c.args.at) c.new-found.ensures.items

pub returns-in_err-item : goal.returns-in_err-item
returns-in_err-item c =
    let p = err_from_is_err_and c.from_residual.result c.from_residual.ensures.1 in
    rw (p.1, p.2) (fails_here c.in_err-item.field-0.0 c.items.invariant (sym c.goes_on.ensures ∙ c.items-test.true)
    c.in_err-item.ensures)

pub items-smaller : goal.items-smaller
items-smaller c =
    place_moves c.args.source.tokens.now c.items.place c.in_ok-item.after
    (shortens (item_ones c.args.source.scope) 0 c.in_ok-item.ensures)

pub items-preserved : goal.items-preserved
items-preserved c =
    one_more item_seen c.items.found.items c.in_ok-item.item c.items.invariant (sym c.goes_on.ensures ∙ c.items-test.true) c.in_ok-item.ensures
    (shortens (item_ones c.args.source.scope) 0 c.in_ok-item.ensures) c.in_ok-push.ensures.items

pub returns : goal.returns
returns c = stops_here c.items.invariant (sym c.goes_on.ensures ∙ c.items-test.false)
