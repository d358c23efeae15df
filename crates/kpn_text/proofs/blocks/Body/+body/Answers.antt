-- A block puts its statements one after the other.
use Rattle.std.proofs.Common.{codes, arith}
use Rattle.kpn_text.proofs.BlockLemmas.{block_done, braces_text, branch_text, if_alone, inner, ready, statement_more}
use Rattle.kpn_text.proofs.PrintingLemmas.{same_prints}
use Rattle.kpn_text.proofs.blocks.Body.+body.Goals as goal

pub block-statement-requires : goal.block-statement-requires
block-statement-requires t c =
    let is =
    ready c.args.self.now.program.now c.args.level c.args.block c.loop-statement.statement-index
    c.in-Some.statements.now c.statement-item.result c.requires.levels c.in-Some.ensures.1 (omega arith)
    c.statement-item.is in
    (omega arith, (c.requires.program, (is.level, (c.requires.indents, is.levels))))

pub block-loop-statement-preserved : goal.block-loop-statement-preserved
block-loop-statement-preserved t c =
    statement_more c.args.self.now.language c.args.indents c.args.self.now.names.now c.args.self.now.program.now
    c.in-Some.statements.now
    c.loop-statement.statement-index c.statement-item.result
    (omega arith) c.statement-item.is _ _ _ c.loop-statement.invariant c.in_ok-statement.ensures

pub block-returns : goal.block-returns
block-returns t c =
    block_done c.args.self.now.language c.args.indents c.args.self.now.names.now c.args.self.now.program.now
    c.requires.program c.args.block
    c.in-Some.statements.now c.loop-statement.statement-index _ _
    c.in-Some.ensures.1 c.loop-statement-test.false c.loop-statement.invariant

pub statement-returns-in_ok-block-in-If : goal.statement-returns-in_ok-block-in-If
statement-returns-in_ok-block-in-If t c =
    rw c.in-If.is
    (branch_text _ c.args.self.now.language c.args.indents (codes "if ") _ _ _ _ _ _ _ _ _ c.in_ok-indent.ensures
    c.in_ok-bytes-in-If.ensures c.in_ok-test-in-If.ensures c.in_ok-block-in-If.ensures c.otherwise.ensures)

pub otherwise-block-requires : goal.otherwise-block-requires
otherwise-block-requires t c =
    let is =
    inner c.args.self.now.program.now c.args.level c.args.block _ c.in-If.first c.in-If.second c.requires.levels
    c.in-If.ensures.1 in
    (omega arith, (c.requires.program, (omega arith, is.first)))

pub otherwise-otherwise-requires : goal.otherwise-otherwise-requires
otherwise-otherwise-requires t c =
    let is =
    inner c.args.self.now.program.now c.args.level c.args.block _ c.in-If.first c.in-If.second c.requires.levels
    c.in-If.ensures.1 in
    (omega arith, (c.requires.program, (is.below, (omega arith, is.second))))

pub otherwise-returns-in_ok-block-in-If : goal.otherwise-returns-in_ok-block-in-If
otherwise-returns-in_ok-block-in-If t c =
    same_prints _ _ _ _ _
    (if_alone c.args.self.now.language c.args.indents c.args.self.now.names.now c.args.self.now.program.now
    c.requires.program c.args.block _ c.in-If.first c.in-If.second c.in-If.ensures.0 c.in-If.ensures.1)
    (branch_text _ c.args.self.now.language c.args.indents (codes "} else if ") _ _ _ _ _ _ _ _ _
    c.in_ok-indent-in-If.ensures c.in_ok-bytes-in-If.ensures c.in_ok-test-in-If.ensures c.in_ok-block-in-If.ensures
    c.otherwise.ensures)

pub otherwise-returns-in_ok-block-in-Block : goal.otherwise-returns-in_ok-block-in-Block
otherwise-returns-in_ok-block-in-Block t c =
    braces_text _ c.args.self.now.language c.args.indents c.args.self.now.names.now c.args.self.now.program.now
    c.requires.program c.args.block c.in-Block.ensures _ _ _ _ _ c.in_ok-indent-in-Block.ensures
    c.in_ok-bytes-in-Block.ensures c.in_ok-block-in-Block.ensures c.close-in-Block.ensures
