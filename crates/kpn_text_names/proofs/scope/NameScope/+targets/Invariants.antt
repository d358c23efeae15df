-- The statements that remain, read from here, lead to the same as all of them; variables only become more.
use Rattle.kpn_text_names.proofs.Common.{◌≡◌, ◌≤◌, drop, length, block_seen, with_targets}
use Rattle.kpn_text_names.proofs.scope.NameScope.+targets.Given as goal

abbrev pub invariant-add_targets-loop-statement : goal.invariant-add_targets-loop-statement
invariant-add_targets-loop-statement l = record {
  remains : with_targets l.shared l.self (block_seen (drop l.statement-index l.statements))
      ≡ with_targets l.shared l.fn.self (block_seen l.statements);
  vars : length l.fn.self.vars ≤ length l.self.vars;
}
