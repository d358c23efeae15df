-- What remains pays for the rest of the block exactly as the budget does for the whole.
use Rattle.std.proofs.Common.{◌≡◌, drop, sum_by}
use Rattle.kpn_lang.proofs.Common.{statement_nodes, budget_after, statements_of}
use Rattle.kpn_lang.proofs.program.parts.budget_after_block.Given as goal

abbrev pub invariant-loop-stmt : goal.invariant-loop-stmt
invariant-loop-stmt l =
    budget_after l.rest (sum_by statement_nodes (statements_of (drop l.stmt-index l.block)))
    ≡ budget_after l.budget (sum_by statement_nodes (statements_of l.block))
