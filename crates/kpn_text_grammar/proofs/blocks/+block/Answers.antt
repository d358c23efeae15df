-- A block is its statements, one level below, and its braces; one more round of the loop reads one statement more.
use Rattle.kpn_text_grammar.proofs.Common.{◌≡◌, ◌<◌, true, false, sym, ◌∙◌, arith, err_from_is_err_and, tokens_from, statement_seen}
use Rattle.kpn_text_grammar.specs.Reading.{is_branch, all_of}
use Rattle.kpn_text_grammar.proofs.BlockSteps.{block_below, block_deep, block_unopened, second_below, second_deep, second_is_block}
use Rattle.kpn_text_grammar.proofs.Rounds.{at_first, one_more, stops_here, fails_here, place_moves}
use Rattle.kpn_text_grammar.proofs.StatementLaws.{statement_shortens}
use Rattle.kpn_text_grammar.proofs.blocks.+block.Goals as goal

pub block-returns-in_err-inside : goal.block-returns-in_err-inside
block-returns-in_err-inside t c =
    let p = err_from_is_err_and c.from_residual.result c.from_residual.ensures.1 in
    rw (p.1, p.2) (block_unopened c.args.source.scope c.args.depth (tokens_from c.args.source c.args.at)
    c.in_err-inside.field-0.0 c.in_err-inside.ensures)

pub block-returns-then-depth-eq0 : goal.block-returns-then-depth-eq0
block-returns-then-depth-eq0 t c =
    let none : c.args.depth ≡ 0 = omega arith in
    block_deep c.args.source.scope c.args.depth (tokens_from c.args.source c.args.at)
    (tokens_from c.args.source c.in_ok-inside.inside) none c.in_ok-inside.ensures

pub block-returns : goal.block-returns
block-returns t c =
    let some : 0 < c.args.depth = omega arith in
    rw (block_below c.args.source.scope c.args.depth (tokens_from c.args.source c.args.at)
    (tokens_from c.args.source c.in_ok-inside.inside) some c.in_ok-inside.ensures) c.block_behind.ensures

pub statements-statements-init : goal.statements-statements-init
unfolding all_of
statements-statements-init t c =
    at_first statement_seen c.new-found.result.items (tokens_from c.args.source c.args.at) c.new-found.ensures.items

pub statements-returns-in_err-statement : goal.statements-returns-in_err-statement
statements-returns-in_err-statement t c =
    let p = err_from_is_err_and c.from_residual.result c.from_residual.ensures.1 in
    rw (p.1, p.2) (fails_here c.in_err-statement.field-0.0 c.statements.invariant
    (sym c.goes_on.ensures ∙ c.statements-test.true) c.in_err-statement.ensures)

pub statements-statements-smaller : goal.statements-statements-smaller
statements-statements-smaller t c =
    place_moves c.args.source.tokens.now c.statements.place c.in_ok-statement.after
    (statement_shortens c.args.source.scope c.args.depth _ c.in_ok-statement.ensures)

pub statements-statements-preserved : goal.statements-statements-preserved
statements-statements-preserved t c =
    one_more statement_seen c.statements.found.items c.in_ok-statement.statement c.statements.invariant (sym c.goes_on.ensures ∙ c.statements-test.true)
    c.in_ok-statement.ensures (statement_shortens c.args.source.scope c.args.depth _ c.in_ok-statement.ensures)
    c.in_ok-push.ensures.items

pub statements-returns : goal.statements-returns
statements-returns t c = stops_here c.statements.invariant (sym c.goes_on.ensures ∙ c.statements-test.false)

pub second_block-returns-then-not-is_branch : goal.second_block-returns-then-not-is_branch
second_block-returns-then-not-is_branch t c =
    let no : is_branch c.args.source.scope (tokens_from c.args.source c.args.at) ≡ false = cc in
    rw (second_is_block c.args.source.scope c.args.depth (tokens_from c.args.source c.args.at) no) c.block.ensures

pub second_block-returns-then-depth-eq0 : goal.second_block-returns-then-depth-eq0
second_block-returns-then-depth-eq0 t c =
    let there : is_branch c.args.source.scope (tokens_from c.args.source c.args.at) ≡ true = cc in
    second_deep c.args.source.scope c.args.depth (tokens_from c.args.source c.args.at) (omega arith) there

pub second_block-returns : goal.second_block-returns
second_block-returns t c =
    let there : is_branch c.args.source.scope (tokens_from c.args.source c.args.at) ≡ true = cc in
    rw (second_below c.args.source.scope c.args.depth (tokens_from c.args.source c.args.at) (omega arith) there)
    c.branch-alloc.ensures
