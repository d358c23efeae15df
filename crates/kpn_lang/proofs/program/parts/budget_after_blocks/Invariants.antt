-- What remains pays for the rest of the blocks exactly as the budget does for all.
use Rattle.std.proofs.Common.{◌≡◌, drop, sum_by}
use Rattle.kpn_lang.proofs.Common.{statement_nodes, budget_after, blocks_of}
use Rattle.kpn_lang.proofs.program.parts.budget_after_blocks.Given as goal

abbrev pub invariant-loop-block : goal.invariant-loop-block
invariant-loop-block l =
    budget_after l.rest (sum_by (sum_by statement_nodes) (blocks_of (drop l.block-index l.blocks)))
    ≡ budget_after l.budget (sum_by (sum_by statement_nodes) (blocks_of l.blocks))
