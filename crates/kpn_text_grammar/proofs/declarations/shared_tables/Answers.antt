-- One more round of the loop reads one thing more.
use Rattle.kpn_text_grammar.proofs.Common.{sym, ◌∙◌, err_from_is_err_and, tokens_from, table_seen}
use Rattle.kpn_text_grammar.specs.Reading.{all_of}
use Rattle.kpn_text_grammar.proofs.DeclarationLaws.{shared_ones}
use Rattle.kpn_text_grammar.proofs.Readers.{shortens}
use Rattle.kpn_text_grammar.proofs.Rounds.{at_first, one_more, stops_here, fails_here, place_moves}
use Rattle.kpn_text_grammar.proofs.declarations.shared_tables.Goals as goal

pub tables-init : goal.tables-init
unfolding all_of
tables-init c =
    at_first table_seen c.new-found.result.items (tokens_from c.args.source c.args.at) c.new-found.ensures.items

pub returns-in_err-table : goal.returns-in_err-table
returns-in_err-table c =
    let p = err_from_is_err_and c.from_residual.result c.from_residual.ensures.1 in
    rw (p.1, p.2) (fails_here c.in_err-table.field-0.0 c.tables.invariant (sym c.at_keyword.ensures ∙ c.tables-test.true)
    c.in_err-table.ensures)

pub tables-smaller : goal.tables-smaller
tables-smaller c =
    place_moves c.args.source.tokens.now c.tables.place c.in_ok-table.after
    (shortens (shared_ones c.args.source.scope) 0 c.in_ok-table.ensures)

pub tables-preserved : goal.tables-preserved
tables-preserved c =
    one_more table_seen c.tables.found.items c.in_ok-table.table c.tables.invariant (sym c.at_keyword.ensures ∙ c.tables-test.true) c.in_ok-table.ensures
    (shortens (shared_ones c.args.source.scope) 0 c.in_ok-table.ensures) c.in_ok-push.ensures.items

pub returns : goal.returns
returns c = stops_here c.tables.invariant (sym c.at_keyword.ensures ∙ c.tables-test.false)
