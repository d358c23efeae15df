-- A call goes down to the levels that remain; what is put so far, and the statements still to come, are all
-- statements.
use Rattle.kpn_text.proofs.Common.{◌≡◌, ◌+◌, ◌-◌, ◌*◌, ◌++◌, List, ℕ, drop, MAX_LEVELS, tree_of, statements_of}
use Rattle.kpn_text.proofs.BlockLemmas.{block_text}
use Rattle.kpn_text.proofs.blocks.Body.+body.Given as goal

abbrev pub decreases-block : goal.decreases-block
decreases-block l = 3 * (MAX_LEVELS + 1 - l.level) + 2

abbrev pub decreases-statement : goal.decreases-statement
decreases-statement l = 3 * (MAX_LEVELS + 1 - l.level) + 1

abbrev pub decreases-otherwise : goal.decreases-otherwise
decreases-otherwise l = 3 * (MAX_LEVELS + 1 - l.level)

abbrev pub invariant-block-loop-statement : goal.invariant-block-loop-statement
invariant-block-loop-statement l =
    let text = block_text l.self.language l.indents l.self.names.now (tree_of l.self.program.now.blocks) in
    (more : List ℕ)
    → l.out.items ++ text (drop l.statement-index (statements_of l.statements)) more
    ≡ l.initial.out.items ++ text (statements_of l.statements) more
