-- A block is opened, its statements are written, and it is closed.
use Rattle.kpn_text_names.proofs.Common.{◌≡◌, ◌++◌, ◌∷◌, [], sym, ap, ◌∙◌, arith, map-append, err_from_is_err_and, statement_of, statements_of, body_written}
use Rattle.kpn_text_names.proofs.StatementSteps.{goes, fails, ends, block_closed}
use Rattle.kpn_text_names.proofs.writer.Writer.+block.Goals as goal

pub block-returns-clause-written : goal.block-returns-clause-written
block-returns-clause-written t c =
    block_closed c.args.shared.now c.args.self.now.scope c.args.self.now.blocks.items c.new.result c.push.new.self.items
    c.statements.new.self.scope c.statements.new.self.blocks.items c.len-number.result
    c.in_ok-own.own _ c.new.ensures.items c.in_ok-push.ensures.items (omega arith) c.in_ok-own.ensures.written

pub statements-returns-in_err-stmt-clause-written : goal.statements-returns-in_err-stmt-clause-written
statements-returns-in_err-stmt-clause-written t c =
    let p = err_from_is_err_and c.from_residual.result c.from_residual.ensures.1 in
    rw (p.1, p.2, ← c.loop-statement.invariant.remains)
    (fails c.args.shared.now (body_written c.loop-statement.self) (statements_of c.loop-statement.own.items) c.args.statements.now
    c.loop-statement.statement-index c.statement-item.result c.statement-item.result
    c.in_err-stmt.field-0.0 (omega arith) (sym c.statement-item.is) c.in_err-stmt.ensures.written)

pub statements-loop-statement-preserved : goal.statements-loop-statement-preserved
statements-loop-statement-preserved t c = record {
  remains =
      let pushed : statements_of c.push.new.self.items
      ≡ statements_of c.loop-statement.own.items ++ statement_of c.in_ok-stmt.stmt ∷ [] =
      ap statements_of c.in_ok-push.ensures.items
      ∙ map-append statement_of c.loop-statement.own.items (c.in_ok-stmt.stmt ∷ []) in
      rw pushed
      (sym
      (goes c.args.shared.now (body_written c.loop-statement.self) (statements_of c.loop-statement.own.items) c.args.statements.now
      c.loop-statement.statement-index c.statement-item.result c.statement-item.result
      (body_written c.statement.new.self) (statement_of c.in_ok-stmt.stmt) (omega arith) (sym c.statement-item.is)
      c.in_ok-stmt.ensures.written)
      ∙ c.loop-statement.invariant.remains);
  blocks = omega (arith, c.in_ok-stmt.ensures.blocks);
  vars = omega (arith, c.in_ok-stmt.ensures.vars);
}

pub statements-returns-clause-written : goal.statements-returns-clause-written
statements-returns-clause-written t c =
    sym c.loop-statement.invariant.remains
    ∙ ends c.args.shared.now (body_written c.loop-statement.self) (statements_of c.loop-statement.own.items) c.args.statements.now
    c.loop-statement.statement-index (omega arith)
