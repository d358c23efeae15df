-- One more round of the loop reads one thing more.
use Rattle.kpn_text_grammar.proofs.Common.{sym, ◌∙◌, err_from_is_err_and, tokens_from, declaration_seen}
use Rattle.kpn_text_grammar.specs.Reading.{all_of}
use Rattle.kpn_text_grammar.proofs.DeclarationLaws.{declaration_ones}
use Rattle.kpn_text_grammar.proofs.Readers.{shortens}
use Rattle.kpn_text_grammar.proofs.Rounds.{at_first, one_more, stops_here, fails_here, place_moves}
use Rattle.kpn_text_grammar.proofs.declarations.declarations.Goals as goal

pub declarations-init : goal.declarations-init
unfolding all_of
declarations-init c =
    at_first declaration_seen c.new-found.result.items (tokens_from c.args.source c.args.at) c.new-found.ensures.items

pub returns-in_err-declaration : goal.returns-in_err-declaration
returns-in_err-declaration c =
    let p = err_from_is_err_and c.from_residual.result c.from_residual.ensures.1 in
    rw (p.1, p.2) (fails_here c.in_err-declaration.field-0.0 c.declarations.invariant (sym c.declares.ensures ∙ c.declarations-test.true)
    c.in_err-declaration.ensures)

pub declarations-smaller : goal.declarations-smaller
declarations-smaller c =
    place_moves c.args.source.tokens.now c.declarations.place c.in_ok-declaration.after
    (shortens (declaration_ones c.args.source.scope) 0 c.in_ok-declaration.ensures)

pub declarations-preserved : goal.declarations-preserved
declarations-preserved c =
    one_more declaration_seen c.declarations.found.items c.in_ok-declaration.declaration c.declarations.invariant (sym c.declares.ensures ∙ c.declarations-test.true) c.in_ok-declaration.ensures
    (shortens (declaration_ones c.args.source.scope) 0 c.in_ok-declaration.ensures) c.in_ok-push.ensures.items

pub returns : goal.returns
returns c = stops_here c.declarations.invariant (sym c.declares.ensures ∙ c.declarations-test.false)
