-- The statements that remain, written from here, lead to the same as all of them; blocks and variables only become
-- more.
use Rattle.kpn_text_names.proofs.Common.{◌≡◌, ◌≤◌, [], drop, length, statements_of, block_seen, statements_at, body_written}
use Rattle.kpn_text_names.proofs.writer.Writer.+block.Given as goal

abbrev pub invariant-statements-loop-statement : goal.invariant-statements-loop-statement
invariant-statements-loop-statement l = record {
  remains : statements_at l.shared (body_written l.self) (statements_of l.own.items)
      (block_seen (drop l.statement-index l.statements))
      ≡ statements_at l.shared (body_written l.fn.self) [] (block_seen l.statements);
  blocks : length l.fn.self.blocks.items ≤ length l.self.blocks.items;
  vars : length l.fn.self.scope.vars ≤ length l.self.scope.vars;
}
